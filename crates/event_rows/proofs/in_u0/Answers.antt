-- `in_u0` meets its contract: each arm is the table's row, and the numbers without an arm have none.
use Rattle.codes.specs.declared.state.State.TheVariants.{U0}
use Rattle.octets.proofs.Rows.{no_row}
use Rattle.transitions.specs.declared.Decision.TheVariants.{NoStep}
use Rattle.codes.specs.declared.protocol.Protocol.TheVariants.{Broadcast}
use Rattle.transitions.specs.Table.{rows_of, events_in, happened_in}
use Rattle.event_rows.proofs.in_u0.Goals as goal

pub returns-in-1 : goal.returns-in-1
unfolding happened_in
returns-in-1 c = rw c.in-1.is

pub returns-in-2 : goal.returns-in-2
unfolding happened_in
returns-in-2 c = rw c.in-2.is

pub returns-in-10 : goal.returns-in-10
unfolding happened_in
returns-in-10 c = rw c.in-10.is c.notified.ensures

pub returns-in-0 : goal.returns-in-0
unfolding happened_in
returns-in-0 c = rw c.in-0.in-0-own.keys4

pub returns-in-0-2 : goal.returns-in-0-2
unfolding happened_in
returns-in-0-2 c = no_row c.args.number NoStep (events_in U0 c.args.context (rows_of Broadcast c.args.table)) c.in-0.in-0-own.rest.0
