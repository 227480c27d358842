-- `remembered_at` meets its contract: each arm is a row.
use Rattle.octets.proofs.Rows.{no_row}
use Rattle.context.specs.declared.Remembered.TheVariants.{Nothing}
use Rattle.context_octets.specs.Octets.{remembered_at, remembereds}
use Rattle.context_octets.proofs.remembered_at.Goals as goal

pub returns-in-2 : goal.returns-in-2
unfolding remembered_at
returns-in-2 c = rw c.in-2.is

pub returns-in-3 : goal.returns-in-3
unfolding remembered_at
returns-in-3 c = rw c.in-3.is

pub returns-in-8 : goal.returns-in-8
unfolding remembered_at
returns-in-8 c = rw c.in-8.is

pub returns-in-9 : goal.returns-in-9
unfolding remembered_at
returns-in-9 c = rw c.in-9.is

pub returns-in-11 : goal.returns-in-11
unfolding remembered_at
returns-in-11 c = rw c.in-11.is

pub returns-in-12 : goal.returns-in-12
unfolding remembered_at
returns-in-12 c = rw c.in-12.is

pub returns-in_default : goal.returns-in_default
unfolding remembered_at
returns-in_default c = no_row c.args.number Nothing remembereds c.in_default.in_default-own.rest
