-- `is_within` meets its contract.
use borrow.Author.Tests.{le-leb, lt-leb}
use Rattle.element.specs.Elements.{within}
use Rattle.element.proofs.is_within.Goals as goal

pub returns-then-low-octet : goal.returns-then-low-octet
unfolding within
returns-then-low-octet c = simp (le-leb _ _ c.if-low-octet.true)

pub returns-else-low-octet : goal.returns-else-low-octet
unfolding within
returns-else-low-octet c = simp (lt-leb _ _ c.if-low-octet.false)
