-- `in_u6` meets its contract: each arm is the table's row, and the numbers without an arm have none.
use Rattle.codes.specs.declared.state.State.TheVariants.{U6}
use Rattle.octets.proofs.Rows.{no_row}
use Rattle.transitions.specs.declared.Decision.TheVariants.{NoStep}
use Rattle.codes.specs.declared.protocol.Protocol.TheVariants.{Broadcast}
use Rattle.transitions.specs.Table.{rows_of, events_in, happened_in}
use Rattle.event_rows.proofs.in_u6.Goals as goal

pub returns-in-12 : goal.returns-in-12
unfolding happened_in
returns-in-12 c = rw c.in-12.is c.no_channel_in_u6.ensures

pub returns-in-13 : goal.returns-in-13
unfolding happened_in
returns-in-13 c = rw c.in-13.is

pub returns-in-17 : goal.returns-in-17
unfolding happened_in
returns-in-17 c = rw c.in-17.is c.where_true.ensures

pub returns-in-5 : goal.returns-in-5
unfolding happened_in
returns-in-5 c = rw c.in-5.is

pub returns-in-9 : goal.returns-in-9
unfolding happened_in
returns-in-9 c = rw c.in-9.is

pub returns-in-8 : goal.returns-in-8
unfolding happened_in
returns-in-8 c = rw c.in-8.is

pub returns-in-0-to-4 : goal.returns-in-0-to-4
unfolding happened_in
returns-in-0-to-4 c = no_row c.args.number NoStep (events_in U6 c.args.context (rows_of Broadcast c.args.table)) c.in-0-to-4.in-0-to-4-own.rest
