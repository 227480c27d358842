-- `mending_of` meets its contract, answer by answer.
use Rattle.mend_numbers.specs.Numbers.{mending_of}
use Rattle.mend_numbers.proofs.mending_of.Goals as goal

pub returns-in-TooLong : goal.returns-in-TooLong
unfolding mending_of
returns-in-TooLong c = rw c.in-TooLong.is c.refused_with.ensures

pub returns-in-OutOfRange : goal.returns-in-OutOfRange
unfolding mending_of
returns-in-OutOfRange c = rw c.in-OutOfRange.is c.refused_with-in-OutOfRange.ensures

pub returns-in-NoRoom : goal.returns-in-NoRoom
unfolding mending_of
returns-in-NoRoom c = rw c.in-NoRoom.is c.refused_with-in-NoRoom.ensures

pub returns-in-Done : goal.returns-in-Done
unfolding mending_of
returns-in-Done c = rw (c.in-Done.is, c.ending_number.ensures)
