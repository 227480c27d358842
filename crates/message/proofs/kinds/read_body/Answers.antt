-- `read_body` meets its contract: each arm is a row of table 9.1, and the rest has no row.
use Rattle.octets.proofs.Rows.{no_row}
use Rattle.message.specs.declared.Fault.TheVariants.{UnknownType}
use Rattle.std.specs.Prelude.{Err}
use Rattle.message.specs.Reading.{kinds, body_of}
use Rattle.message.proofs.kinds.read_body.Goals as goal

pub returns-in-49 : goal.returns-in-49
unfolding body_of
returns-in-49 c = rw c.in-49.is c.read_immediate_setup.ensures

pub returns-in-50 : goal.returns-in-50
unfolding body_of
returns-in-50 c = rw c.in-50.is c.read_setup.ensures

pub returns-in-51 : goal.returns-in-51
unfolding body_of
returns-in-51 c = rw c.in-51.is c.read_connect.ensures

pub returns-in-52 : goal.returns-in-52
unfolding body_of
returns-in-52 c = rw c.in-52.is c.read_termination.ensures

pub returns-in-53 : goal.returns-in-53
unfolding body_of
returns-in-53 c = rw c.in-53.is c.read_termination_request.ensures

pub returns-in-54 : goal.returns-in-54
unfolding body_of
returns-in-54 c = rw c.in-54.is c.read_termination_reject.ensures

pub returns-in-56 : goal.returns-in-56
unfolding body_of
returns-in-56 c = rw c.in-56.is c.read_status.ensures

pub returns-in-57 : goal.returns-in-57
unfolding body_of
returns-in-57 c = rw c.in-57.is c.read_get_status.ensures

pub returns-in-58 : goal.returns-in-58
unfolding body_of
returns-in-58 c = rw c.in-58.is c.read_set_parameter.ensures

pub returns-in-0-to-48 : goal.returns-in-0-to-48
unfolding body_of
returns-in-0-to-48 c = rw c.in-0-to-48.in-0-to-48-own.keys10

pub returns-in-0-to-48-2 : goal.returns-in-0-to-48-2
unfolding body_of
returns-in-0-to-48-2 c = no_row c.args.kind (Err UnknownType) (kinds c.args.protocol c.args.octets.now) c.in-0-to-48.in-0-to-48-own.rest.0
