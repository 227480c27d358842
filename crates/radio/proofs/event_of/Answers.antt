-- `event_of` meets its contract: each arm is a row, and the numbers without an arm have none.
use Rattle.octets.proofs.Rows.{no_row}
use Rattle.std.specs.Prelude.{None}
use Rattle.radio.specs.Step.{events, event_of}
use Rattle.radio.proofs.event_of.Goals as goal

pub returns-in-1 : goal.returns-in-1
unfolding event_of
returns-in-1 c = rw c.in-1.is

pub returns-in-2 : goal.returns-in-2
unfolding event_of
returns-in-2 c = rw c.in-2.is

pub returns-in-3 : goal.returns-in-3
unfolding event_of
returns-in-3 c = rw c.in-3.is

pub returns-in-4 : goal.returns-in-4
unfolding event_of
returns-in-4 c = rw c.in-4.is

pub returns-in-5 : goal.returns-in-5
unfolding event_of
returns-in-5 c = rw c.in-5.is

pub returns-in-6 : goal.returns-in-6
unfolding event_of
returns-in-6 c = rw c.in-6.is

pub returns-in-7 : goal.returns-in-7
unfolding event_of
returns-in-7 c = rw c.in-7.is

pub returns-in-8 : goal.returns-in-8
unfolding event_of
returns-in-8 c = rw c.in-8.is

pub returns-in-9 : goal.returns-in-9
unfolding event_of
returns-in-9 c = rw c.in-9.is

pub returns-in-10 : goal.returns-in-10
unfolding event_of
returns-in-10 c = rw c.in-10.is

pub returns-in-11 : goal.returns-in-11
unfolding event_of
returns-in-11 c = rw c.in-11.is

pub returns-in-12 : goal.returns-in-12
unfolding event_of
returns-in-12 c = rw c.in-12.is

pub returns-in-13 : goal.returns-in-13
unfolding event_of
returns-in-13 c = rw c.in-13.is

pub returns-in-14 : goal.returns-in-14
unfolding event_of
returns-in-14 c = rw c.in-14.is

pub returns-in-15 : goal.returns-in-15
unfolding event_of
returns-in-15 c = rw c.in-15.is

pub returns-in-16 : goal.returns-in-16
unfolding event_of
returns-in-16 c = rw c.in-16.is

pub returns-in-17 : goal.returns-in-17
unfolding event_of
returns-in-17 c = rw c.in-17.is

pub returns-in-18 : goal.returns-in-18
unfolding event_of
returns-in-18 c = rw c.in-18.is

pub returns-in-19 : goal.returns-in-19
unfolding event_of
returns-in-19 c = rw c.in-19.is

pub returns-in-32 : goal.returns-in-32
unfolding event_of
returns-in-32 c = rw c.in-32.is

pub returns-in-33 : goal.returns-in-33
unfolding event_of
returns-in-33 c = rw c.in-33.is

pub returns-in-34 : goal.returns-in-34
unfolding event_of
returns-in-34 c = rw c.in-34.is

pub returns-in-35 : goal.returns-in-35
unfolding event_of
returns-in-35 c = rw c.in-35.is

pub returns-in-36 : goal.returns-in-36
unfolding event_of
returns-in-36 c = rw c.in-36.is

pub returns-in_default : goal.returns-in_default
unfolding event_of
returns-in_default c = no_row c.args.number None (events c.args.value c.args.reference) c.in_default.in_default-own.rest
