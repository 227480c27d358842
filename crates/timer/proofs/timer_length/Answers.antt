-- `timer_length` meets its contract: each arm is a row, and the numbers without an arm have none.
use Prim.Native.Nat.{ℕ}
use Rattle.octets.proofs.Rows.{no_row}
use Rattle.timer.specs.Timers.{lengths, length_of}
use Rattle.timer.proofs.timer_length.Goals as goal

pub returns-in-1 : goal.returns-in-1
unfolding length_of
returns-in-1 c = rw (c.in-1.is, c.milliseconds.ensures)

pub returns-in-2 : goal.returns-in-2
unfolding length_of
returns-in-2 c = rw (c.in-2.is, c.milliseconds-in-2.ensures)

pub returns-in-3 : goal.returns-in-3
unfolding length_of
returns-in-3 c = rw (c.in-3.is, c.milliseconds-in-3.ensures)

pub returns-in-4 : goal.returns-in-4
unfolding length_of
returns-in-4 c = rw (c.in-4.is, c.milliseconds-in-4.ensures)

pub returns-in-5 : goal.returns-in-5
unfolding length_of
returns-in-5 c = rw (c.in-5.is, c.milliseconds-in-5.ensures)

pub returns-in_default : goal.returns-in_default
unfolding length_of
returns-in_default c = no_row {A = ℕ} c.args.timer 0 (lengths c.args.joining c.args.invitation) c.in_default.in_default-own.rest
