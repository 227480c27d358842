-- `understand` meets its contract: rules 4, 5 and 6.
use Rattle.received.specs.Due.{understood_due}
use Rattle.received.proofs.understand.Goals as goal

pub is_other-other-requires : goal.is_other-other-requires
is_other-other-requires c = rw c.ask-asked.ensures c.requires

pub returns-then-mode-other : goal.returns-then-mode-other
unfolding understood_due
returns-then-mode-other c = rw (← c.ask-asked.ensures, ← c.is_other-other.ensures, c.if-mode-other.true)

pub returns-then-must-asked : goal.returns-then-must-asked
unfolding understood_due
returns-then-must-asked c = rw (← c.ask-asked.ensures, ← c.is_other-other.ensures, c.if-mode-other.false, ← c.must_name_us-must.ensures, c.if-must-asked.true)

pub returns : goal.returns
unfolding understood_due
returns c = rw (← c.ask-asked.ensures, ← c.is_other-other.ensures, c.if-mode-other.false, ← c.must_name_us-must.ensures, c.if-must-asked.false)
