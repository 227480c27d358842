-- `talk_after` meets its contract: what is kept after the row.
use Rattle.call_step.proofs.talk_after.Goals as goal

pub returns : goal.returns
returns c = c.kept_after.ensures
