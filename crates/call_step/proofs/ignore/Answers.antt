-- `ignore` meets its contract: it is the definition's record, with the reason's number.
use Rattle.call.specs.Step.{ignored}
use Rattle.call_step.proofs.ignore.Goals as goal

pub returns : goal.returns
unfolding ignored
returns c = rw (c.unsent-sent.ensures, c.reason_number-number.ensures)
