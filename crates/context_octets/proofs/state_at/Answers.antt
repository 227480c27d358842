-- `state_at` meets its contract: each arm is a row, and the rest has no row.
use Rattle.octets.proofs.Rows.{no_row}
use Rattle.std.specs.Prelude.{None}
use Rattle.context_octets.specs.Octets.{state_at, numbered}
use Rattle.context_octets.proofs.state_at.Goals as goal

pub returns-in-0 : goal.returns-in-0
unfolding state_at
returns-in-0 c = rw c.in-0.is

pub returns-in-1 : goal.returns-in-1
unfolding state_at
returns-in-1 c = rw c.in-1.is

pub returns-in-2 : goal.returns-in-2
unfolding state_at
returns-in-2 c = rw c.in-2.is

pub returns-in-3 : goal.returns-in-3
unfolding state_at
returns-in-3 c = rw c.in-3.is

pub returns-in-4 : goal.returns-in-4
unfolding state_at
returns-in-4 c = rw c.in-4.is

pub returns-in-5 : goal.returns-in-5
unfolding state_at
returns-in-5 c = rw c.in-5.is

pub returns-in-6 : goal.returns-in-6
unfolding state_at
returns-in-6 c = rw c.in-6.is

pub returns-in-7 : goal.returns-in-7
unfolding state_at
returns-in-7 c = rw c.in-7.is

pub returns-in-8 : goal.returns-in-8
unfolding state_at
returns-in-8 c = rw c.in-8.is

pub returns-in-9 : goal.returns-in-9
unfolding state_at
returns-in-9 c = rw c.in-9.is

pub returns-in-10 : goal.returns-in-10
unfolding state_at
returns-in-10 c = rw c.in-10.is

pub returns-in-11 : goal.returns-in-11
unfolding state_at
returns-in-11 c = rw c.in-11.is

pub returns-in-12 : goal.returns-in-12
unfolding state_at
returns-in-12 c = rw c.in-12.is

pub returns-in-13 : goal.returns-in-13
unfolding state_at
returns-in-13 c = rw c.in-13.is

pub returns-in_default : goal.returns-in_default
unfolding state_at
returns-in_default c = no_row c.args.number None numbered c.in_default.in_default-own.rest
