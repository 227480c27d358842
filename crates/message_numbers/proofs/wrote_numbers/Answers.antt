-- `wrote_numbers` meets its contract, case by case.
use Rattle.message_numbers.specs.Outcomes.{wrote_numbers}
use Rattle.message_numbers.proofs.wrote_numbers.Goals as goal

pub returns-in-Ok : goal.returns-in-Ok
unfolding wrote_numbers
returns-in-Ok c = rw c.in-Ok.is

pub returns-in-Err-ShortBuffer : goal.returns-in-Err-ShortBuffer
unfolding wrote_numbers
returns-in-Err-ShortBuffer c = let short = rw c.in-Err-ShortBuffer.is at c.in-Err-ShortBuffer.field-0-is in rw (c.in-Err-ShortBuffer.is, short)

pub returns-in-Err-OutOfRange : goal.returns-in-Err-OutOfRange
unfolding wrote_numbers
returns-in-Err-OutOfRange c = let out = rw c.in-Err-OutOfRange.is at c.in-Err-OutOfRange.field-0-is in rw (c.in-Err-OutOfRange.is, out)
