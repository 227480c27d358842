-- `tell_status` meets its contract, with COMM and without.
use Rattle.call.specs.Step.{status_told}
use Rattle.call_step.proofs.tell_status.Goals as goal

pub returns-then-told : goal.returns-then-told
unfolding status_told
returns-then-told c = rw (c.took.ensures, c.if-told.true)

pub returns : goal.returns
unfolding status_told
returns c = rw (c.ignore.ensures, c.if-told.false)
