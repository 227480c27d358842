-- `whole` meets its contract.
use mathlib.Core.Path.{sym, ◌∙◌}
use Rattle.message.proofs.Bodies.{whole-cut, whole-there}
use Rattle.message.proofs.kinds.whole.Goals as goal

pub returns-then-octets-end : goal.returns-then-octets-end
returns-then-octets-end c = whole-cut _ _ _ c.if-octets-end.true

pub returns-in-Some : goal.returns-in-Some
returns-in-Some c = whole-there _ _ _ _ c.if-octets-end.false (sym c.in-Some.is ∙ c.seek.ensures)

pub returns-in-None : goal.returns-in-None
returns-in-None c = whole-there _ _ _ _ c.if-octets-end.false (sym c.in-None.is ∙ c.seek.ensures)
