-- `cause_in` meets its contract, decision by decision.
use Rattle.received.specs.Received.{cause_in}
use Rattle.received.proofs.cause_in.Goals as goal

pub returns-in-Take : goal.returns-in-Take
unfolding cause_in
returns-in-Take c = rw c.in-Take.is

pub returns-in-NoStep : goal.returns-in-NoStep
unfolding cause_in
returns-in-NoStep c = rw c.in-NoStep.is

pub returns-in-Ignore : goal.returns-in-Ignore
unfolding cause_in
returns-in-Ignore c = rw c.in-Ignore.is

pub returns-in-Report : goal.returns-in-Report
unfolding cause_in
returns-in-Report c = rw c.in-Report.is

pub returns-in-TellStatus : goal.returns-in-TellStatus
unfolding cause_in
returns-in-TellStatus c = rw c.in-TellStatus.is

pub returns-in-SetParameters : goal.returns-in-SetParameters
unfolding cause_in
returns-in-SetParameters c = rw c.in-SetParameters.is
