-- `refuse` meets its contract: it is the definition's record.
use Rattle.call.specs.Step.{no_step}
use Rattle.call_step.proofs.refuse.Goals as goal

pub returns : goal.returns
unfolding no_step
returns c = rw c.unsent-sent.ensures
