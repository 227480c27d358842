-- `with_value` meets its contract: no value is awaited any more.
use Rattle.talk.proofs.with_value.Goals as goal

pub returns : goal.returns
returns c = rw c.awaited-talk.ensures
