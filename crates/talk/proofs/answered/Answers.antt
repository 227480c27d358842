-- `answered` meets its contract: what is sent is no longer pending.
use Rattle.talk.proofs.answered.Goals as goal

pub returns : goal.returns
returns c = rw (c.keeping.ensures, c.pending-talk.ensures)
