-- `report` meets its contract, with COMM and without.
use Rattle.call.specs.Step.{reported_with}
use Rattle.call_step.proofs.report.Goals as goal

pub returns-then-parameters : goal.returns-then-parameters
unfolding reported_with
returns-then-parameters c = rw (c.unsent-sent.ensures, c.if-parameters.true)

pub returns : goal.returns
unfolding reported_with
returns c = rw (c.ignore.ensures, c.if-parameters.false)
