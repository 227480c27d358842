-- `settle` meets its contract, case by case.
use Rattle.call.specs.Due.{settled_by}
use Rattle.call_step.proofs.settle.Goals as goal

pub returns-in-Steps : goal.returns-in-Steps
unfolding settled_by
returns-in-Steps c = rw c.in-Steps.is c.step.ensures

pub returns-in-Ignored : goal.returns-in-Ignored
unfolding settled_by
returns-in-Ignored c = rw c.in-Ignored.is c.ignore.ensures

pub returns-in-Reported : goal.returns-in-Reported
unfolding settled_by
returns-in-Reported c = rw c.in-Reported.is c.report.ensures

pub returns-in-Refused : goal.returns-in-Refused
unfolding settled_by
returns-in-Refused c = rw c.in-Refused.is c.refuse.ensures
