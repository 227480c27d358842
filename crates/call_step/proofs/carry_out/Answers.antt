-- `carry_out` meets its contract, decision by decision.
use Rattle.call.specs.Step.{carried_out}
use Rattle.call_step.proofs.carry_out.Goals as goal

pub returns-in-Take : goal.returns-in-Take
unfolding carried_out
returns-in-Take c = rw (c.take_row.ensures, c.in-Take.is)

pub returns-in-NoStep : goal.returns-in-NoStep
unfolding carried_out
returns-in-NoStep c = rw (c.refuse.ensures, c.in-NoStep.is)

pub returns-in-Ignore : goal.returns-in-Ignore
unfolding carried_out
returns-in-Ignore c = rw (c.ignore.ensures, c.in-Ignore.is)

pub returns-in-Report : goal.returns-in-Report
unfolding carried_out
returns-in-Report c = rw (c.report.ensures, c.in-Report.is)

pub returns-in-TellStatus : goal.returns-in-TellStatus
unfolding carried_out
returns-in-TellStatus c = rw (c.tell_status.ensures, c.in-TellStatus.is)

pub returns-in-SetParameters : goal.returns-in-SetParameters
unfolding carried_out
returns-in-SetParameters c = rw (c.set_parameters.ensures, c.adopted-taking.ensures, c.in-SetParameters.is)
