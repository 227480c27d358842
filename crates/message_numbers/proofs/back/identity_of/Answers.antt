-- `identity_of` meets its contract: no octets are no identity.
use borrow.Author.Tests.{eq-eqb, ne_eqb}
use Rattle.message_numbers.proofs.back.identity_of.Goals as goal

pub returns-then-place-eq0 : goal.returns-then-place-eq0
returns-then-place-eq0 c = rw (eq-eqb _ _ c.if-place-eq0.true)

pub returns : goal.returns
returns c = rw (ne_eqb _ _ c.if-place-eq0.false, c.run_of.ensures)
