-- `half_of` meets its contract: the test of its first number.
use borrow.Author.Tests.{eq-eqb, ne_eqb}
use Rattle.message_numbers.proofs.back.half_of.Goals as goal

pub returns-then-optional-eq0 : goal.returns-then-optional-eq0
returns-then-optional-eq0 c = rw (eq-eqb _ _ c.if-optional-eq0.true)

pub returns : goal.returns
returns c = rw (ne_eqb _ _ c.if-optional-eq0.false)
