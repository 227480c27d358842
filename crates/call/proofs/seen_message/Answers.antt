-- `seen_message` meets its contract, kind by kind.
use Rattle.call.specs.Events.{seen_message}
use Rattle.call.proofs.seen_message.Goals as goal

pub returns-in-Connect : goal.returns-in-Connect
unfolding seen_message
returns-in-Connect c = rw (c.heard.ensures, c.in-Connect.is)

pub returns-in-GetStatus : goal.returns-in-GetStatus
unfolding seen_message
returns-in-GetStatus c = rw (c.silent.ensures, c.in-GetStatus.is)

pub returns-in-ImmediateSetup : goal.returns-in-ImmediateSetup
unfolding seen_message
returns-in-ImmediateSetup c = rw (c.silent-in-ImmediateSetup.ensures, c.in-ImmediateSetup.is)

pub returns-in-SetParameter : goal.returns-in-SetParameter
unfolding seen_message
returns-in-SetParameter c = rw (c.heard-in-SetParameter.ensures, c.in-SetParameter.is)

pub returns-in-Setup : goal.returns-in-Setup
unfolding seen_message
returns-in-Setup c = rw (c.silent-in-Setup.ensures, c.in-Setup.is)

pub returns-in-Status : goal.returns-in-Status
unfolding seen_message
returns-in-Status c = rw (c.silent-in-Status.ensures, c.in-Status.is)

pub returns-in-Termination : goal.returns-in-Termination
unfolding seen_message
returns-in-Termination c = rw (c.silent-in-Termination.ensures, c.in-Termination.is)

pub returns-in-TerminationReject : goal.returns-in-TerminationReject
unfolding seen_message
returns-in-TerminationReject c = rw (c.silent-in-TerminationReject.ensures, c.in-TerminationReject.is)

pub returns-in-TerminationRequest : goal.returns-in-TerminationRequest
unfolding seen_message
returns-in-TerminationRequest c = rw (c.silent-in-TerminationRequest.ensures, c.in-TerminationRequest.is)
