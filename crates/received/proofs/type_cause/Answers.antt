-- `type_cause` meets its contract: bit 8 first, then the table.
use borrow.Author.Tests.{le-leb, lt-leb}
use Rattle.received.specs.Received.{type_cause}
use Rattle.received.proofs.type_cause.Goals as goal

pub returns-then-kind-ge128 : goal.returns-then-kind-ge128
unfolding type_cause
returns-then-kind-ge128 c = rw (le-leb _ _ c.if-kind-ge128.true)

pub returns : goal.returns
unfolding type_cause
returns c = rw (lt-leb _ _ c.if-kind-ge128.false, c.cause_in.ensures, c.decide-decision.ensures)
