-- `ask` meets its contract, kind by kind.
use Rattle.received.specs.Received.{asked_of}
use Rattle.received.proofs.ask.Goals as goal

pub returns-in-Connect : goal.returns-in-Connect
unfolding asked_of
returns-in-Connect c = rw c.in-Connect.is

pub returns-in-GetStatus : goal.returns-in-GetStatus
unfolding asked_of
returns-in-GetStatus c = rw c.in-GetStatus.is

pub returns-in-ImmediateSetup : goal.returns-in-ImmediateSetup
unfolding asked_of
returns-in-ImmediateSetup c = rw c.in-ImmediateSetup.is

pub returns-in-SetParameter : goal.returns-in-SetParameter
unfolding asked_of
returns-in-SetParameter c = rw c.in-SetParameter.is

pub returns-in-Setup : goal.returns-in-Setup
unfolding asked_of
returns-in-Setup c = rw c.in-Setup.is

pub returns-in-Status : goal.returns-in-Status
unfolding asked_of
returns-in-Status c = rw c.in-Status.is

pub returns-in-Termination : goal.returns-in-Termination
unfolding asked_of
returns-in-Termination c = rw c.in-Termination.is

pub returns-in-TerminationReject : goal.returns-in-TerminationReject
unfolding asked_of
returns-in-TerminationReject c = rw c.in-TerminationReject.is

pub returns-in-TerminationRequest : goal.returns-in-TerminationRequest
unfolding asked_of
returns-in-TerminationRequest c = rw c.in-TerminationRequest.is
