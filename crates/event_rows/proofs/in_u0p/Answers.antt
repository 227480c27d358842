-- `in_u0p` meets its contract: each arm is the table's row, and the numbers without an arm have none.
use Rattle.codes.specs.declared.state.State.TheVariants.{U0p}
use Rattle.octets.proofs.Rows.{no_row}
use Rattle.transitions.specs.declared.Decision.TheVariants.{NoStep}
use Rattle.codes.specs.declared.protocol.Protocol.TheVariants.{Broadcast}
use Rattle.transitions.specs.Table.{rows_of, events_in, happened_in}
use Rattle.event_rows.proofs.in_u0p.Goals as goal

pub returns-in-6 : goal.returns-in-6
unfolding happened_in
returns-in-6 c = rw c.in-6.is

pub returns-in-7 : goal.returns-in-7
unfolding happened_in
returns-in-7 c = rw c.in-7.is

pub returns-in-14 : goal.returns-in-14
unfolding happened_in
returns-in-14 c = rw c.in-14.is

pub returns-in-8 : goal.returns-in-8
unfolding happened_in
returns-in-8 c = rw c.in-8.is

pub returns-in-5 : goal.returns-in-5
unfolding happened_in
returns-in-5 c = rw c.in-5.is

pub returns-in-9 : goal.returns-in-9
unfolding happened_in
returns-in-9 c = rw c.in-9.is

pub returns-in-0-to-4 : goal.returns-in-0-to-4
unfolding happened_in
returns-in-0-to-4 c = no_row c.args.number NoStep (events_in U0p c.args.context (rows_of Broadcast c.args.table)) c.in-0-to-4.in-0-to-4-own.rest
