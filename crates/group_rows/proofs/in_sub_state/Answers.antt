-- `in_sub_state` meets its contract: each arm is a row, and the numbers without an arm have none.
use Rattle.octets.proofs.Rows.{no_row}
use Rattle.transitions.specs.declared.Decision.TheVariants.{NoStep}
use Rattle.group_rows.specs.Rows.{sub_state_rows}
use Rattle.group_rows.proofs.in_sub_state.Goals as goal

pub returns-in-12 : goal.returns-in-12
returns-in-12 c = rw c.in-12.is c.no_channel.ensures

pub returns-in-11 : goal.returns-in-11
returns-in-11 c = rw c.in-11.is

pub returns-in-34 : goal.returns-in-34
returns-in-34 c = rw c.in-34.is

pub returns-in-35 : goal.returns-in-35
returns-in-35 c = rw c.in-35.is

pub returns-in-4 : goal.returns-in-4
returns-in-4 c = rw c.in-4.is c.where_true.ensures

pub returns-in-36 : goal.returns-in-36
returns-in-36 c = rw (c.in-36.is, ← c.staying-dropped.ensures) c.where_true-in-36.ensures

pub returns-in-5 : goal.returns-in-5
returns-in-5 c = rw c.in-5.is

pub returns-in-9 : goal.returns-in-9
returns-in-9 c = rw c.in-9.is

pub returns-in-8 : goal.returns-in-8
returns-in-8 c = rw c.in-8.is

pub returns-in-0-to-3 : goal.returns-in-0-to-3
returns-in-0-to-3 c = rw c.in-0-to-3.in-0-to-3-own.keys10

pub returns-in-0-to-3-2 : goal.returns-in-0-to-3-2
returns-in-0-to-3-2 c = no_row c.args.number NoStep (sub_state_rows c.args.state c.args.asked c.args.context) c.in-0-to-3.in-0-to-3-own.rest.0
