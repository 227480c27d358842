-- `read` meets its contract: the three ways a reading goes.
use mathlib.Core.Path.{sym, ◌∙◌}
use Rattle.message_numbers.specs.Outcomes.{numbers_read, read_numbers}
use Rattle.message_numbers.proofs.read.Goals as goal

pub returns-in-Ok : goal.returns-in-Ok
unfolding numbers_read read_numbers
returns-in-Ok c = rw (sym c.read.ensures ∙ c.in-Ok.is, c.numbers_of.ensures)

pub returns-in-Err-Unreadable : goal.returns-in-Err-Unreadable
unfolding numbers_read read_numbers
returns-in-Err-Unreadable c = rw (sym c.read.ensures ∙ c.in-Err-Unreadable.is, c.in-Err-Unreadable.field-0-is, c.refused_with.ensures, c.fault_number.ensures)

pub returns-in-Err-TooLong : goal.returns-in-Err-TooLong
unfolding numbers_read read_numbers
returns-in-Err-TooLong c = rw (sym c.read.ensures ∙ c.in-Err-TooLong.is, c.in-Err-TooLong.field-0-is) c.refused_with-in-Err-TooLong.ensures
