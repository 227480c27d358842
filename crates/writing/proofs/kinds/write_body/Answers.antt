-- `write_body` meets its contract, kind by kind.
use Rattle.message.specs.Tables.{table}
use Rattle.writing.specs.Bodies.{body_octets}
use Rattle.writing.proofs.Bodies.{writes_at, writes_as, setup-octets, request_octets}
use Rattle.writing.proofs.kinds.write_body.Goals as goal

pub returns-in-Connect : goal.returns-in-Connect
unfolding body_octets table
returns-in-Connect c = let protocol = c.args.protocol in writes_at protocol _ _ _ _ _ _ _ c.in-Connect.is c.write_connect.ensures

pub returns-in-GetStatus : goal.returns-in-GetStatus
unfolding body_octets table
returns-in-GetStatus c = let protocol = c.args.protocol in writes_at protocol _ _ _ _ _ _ _ c.in-GetStatus.is c.write_get_status.ensures

pub returns-in-ImmediateSetup : goal.returns-in-ImmediateSetup
unfolding body_octets table
returns-in-ImmediateSetup c = let protocol = c.args.protocol in writes_at protocol _ _ _ _ _ _ _ c.in-ImmediateSetup.is c.write_immediate_setup.ensures

pub returns-in-SetParameter : goal.returns-in-SetParameter
unfolding body_octets table
returns-in-SetParameter c = let protocol = c.args.protocol in writes_at protocol _ _ _ _ _ _ _ c.in-SetParameter.is c.write_set_parameter.ensures

pub returns-in-Setup : goal.returns-in-Setup
unfolding body_octets table
returns-in-Setup c = let protocol = c.args.protocol in writes_as protocol _ _ _ _ _ _ _ _ c.in-Setup.is (setup-octets protocol _ _) c.write_reference.ensures

pub returns-in-Status : goal.returns-in-Status
unfolding body_octets table
returns-in-Status c = let protocol = c.args.protocol in writes_at protocol _ _ _ _ _ _ _ c.in-Status.is c.write_status.ensures

pub returns-in-Termination : goal.returns-in-Termination
unfolding body_octets table
returns-in-Termination c = let protocol = c.args.protocol in writes_at protocol _ _ _ _ _ _ _ c.in-Termination.is c.write_termination.ensures

pub returns-in-TerminationReject : goal.returns-in-TerminationReject
unfolding body_octets table
returns-in-TerminationReject c = let protocol = c.args.protocol in writes_at protocol _ _ _ _ _ _ _ c.in-TerminationReject.is c.write_reject.ensures

pub returns-in-TerminationRequest : goal.returns-in-TerminationRequest
unfolding body_octets table
returns-in-TerminationRequest c = let protocol = c.args.protocol in writes_as protocol _ _ _ _ _ _ _ _ c.in-TerminationRequest.is (request_octets protocol _ _) c.write_reference-in-TerminationRequest.ensures
