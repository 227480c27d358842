-- `numbers_of` meets its contract, kind by kind.
use Rattle.message_numbers.specs.Numbers.{numbers_of}
use Rattle.message_numbers.proofs.kinds.numbers_of.Goals as goal

pub returns-in-Connect : goal.returns-in-Connect
unfolding numbers_of
returns-in-Connect c = rw (c.in-Connect.is, c.referring.ensures, c.flag_number-flag.ensures)

pub returns-in-GetStatus : goal.returns-in-GetStatus
unfolding numbers_of
returns-in-GetStatus c = rw (c.in-GetStatus.is, c.asking.ensures, c.flag_number-flag.ensures)

pub returns-in-ImmediateSetup : goal.returns-in-ImmediateSetup
unfolding numbers_of
returns-in-ImmediateSetup c = rw (c.in-ImmediateSetup.is, c.immediate.ensures, c.flag_number-flag.ensures)

pub returns-in-SetParameter : goal.returns-in-SetParameter
unfolding numbers_of
returns-in-SetParameter c = rw (c.in-SetParameter.is, c.setting.ensures, c.flag_number-flag.ensures)

pub returns-in-Setup : goal.returns-in-Setup
unfolding numbers_of
returns-in-Setup c = rw (c.in-Setup.is, c.referring-in-Setup.ensures, c.flag_number-flag.ensures)

pub returns-in-Status : goal.returns-in-Status
unfolding numbers_of
returns-in-Status c = rw (c.in-Status.is, c.caused.ensures, c.flag_number-flag.ensures)

pub returns-in-Termination : goal.returns-in-Termination
unfolding numbers_of
returns-in-Termination c = rw (c.in-Termination.is, c.caused-in-Termination.ensures, c.flag_number-flag.ensures)

pub returns-in-TerminationReject : goal.returns-in-TerminationReject
unfolding numbers_of
returns-in-TerminationReject c = rw (c.in-TerminationReject.is, c.caused-in-TerminationReject.ensures, c.flag_number-flag.ensures)

pub returns-in-TerminationRequest : goal.returns-in-TerminationRequest
unfolding numbers_of
returns-in-TerminationRequest c = rw (c.in-TerminationRequest.is, c.referring-in-TerminationRequest.ensures, c.flag_number-flag.ensures)
