-- `message_of` meets its contract: the test of the flag, then the type.
use borrow.Author.Tests.{le-leb, lt-leb}
use Rattle.message_numbers.specs.Numbers.{message_of}
use Rattle.message_numbers.proofs.back.message_of.Goals as goal

pub returns-then-numbers-gt1 : goal.returns-then-numbers-gt1
unfolding message_of
returns-then-numbers-gt1 c = rw (lt-leb _ _ c.if-numbers-gt1.true)

pub returns : goal.returns
unfolding message_of
returns c = rw (le-leb _ _ c.if-numbers-gt1.false, c.kind_of.ensures)
