-- `cause_said` meets its contract.
use borrow.Author.Rules.{rules}
use borrow.Author.Tests.{lt-ltb, le-ltb}
use Rattle.causes.specs.Causes.{cause_said}
use Rattle.causes.proofs.cause_said.Goals as goal

pub returns-then-first-lt128 : goal.returns-then-first-lt128
unfolding cause_said
returns-then-first-lt128 c = simp (lt-ltb _ _ c.if-first-lt128.true)

pub returns : goal.returns
unfolding cause_said
returns c = simp (le-ltb _ _ c.if-first-lt128.false) c.cause_of.ensures
