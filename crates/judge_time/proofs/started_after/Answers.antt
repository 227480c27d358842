-- `started_after` meets its contract, either way of its test.
use borrow.Author.Tests.{ne_eqb, eq-eqb}
use Rattle.judge_time.specs.Clock.{started_at}
use Rattle.judge_time.proofs.started_after.Goals as goal

pub returns-then-after-before : goal.returns-then-after-before
unfolding started_at
returns-then-after-before c = rw (eq-eqb _ _ c.if-after-before.true)

pub returns : goal.returns
unfolding started_at
returns c = rw (ne_eqb _ _ c.if-after-before.false)
