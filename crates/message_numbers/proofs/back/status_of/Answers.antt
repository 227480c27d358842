-- `status_of` meets its contract: two tests, then the message.
use borrow.Author.Tests.{le-leb, lt-leb}
use Rattle.message_numbers.specs.Numbers.{status_of}
use Rattle.message_numbers.proofs.back.status_of.Goals as goal

pub returns-then-state-gt1 : goal.returns-then-state-gt1
unfolding status_of
returns-then-state-gt1 c = simp (lt-leb _ _ c.if-state-gt1.true)

pub returns-then-attributes-gt1 : goal.returns-then-attributes-gt1
unfolding status_of
returns-then-attributes-gt1 c = simp (le-leb _ _ c.if-state-gt1.false, lt-leb _ _ c.if-attributes-gt1.true)

pub returns : goal.returns
unfolding status_of
returns c = simp (le-leb _ _ c.if-state-gt1.false, le-leb _ _ c.if-attributes-gt1.false, c.half_of.ensures, c.half_of-2.ensures)
