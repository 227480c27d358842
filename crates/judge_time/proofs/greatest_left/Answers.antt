-- `greatest_left` meets its contract: the earlier of the two where the entry is the timer's expiry.
use mathlib.Core.Bool.{not}
use mathlib.Core.Path.{ap}
use mathlib.Core.Bool.{not}
use mathlib.Core.Path.{ap}
use borrow.Author.Tests.{not-true, not-false}
use native.Mathlib.Omega.{arith}
use Rattle.judge_time.specs.Clock.{greatest_left}
use Rattle.judge_time.proofs.greatest_left.Goals as goal

pub returns-then-age-greatest : goal.returns-then-age-greatest
unfolding greatest_left
returns-then-age-greatest c = rw (not-false c.args.ends (ap not c.if-not-ends.false)) (omega arith)

pub returns : goal.returns
unfolding greatest_left
returns c = rw (not-false c.args.ends (ap not c.if-not-ends.false)) (omega arith)

pub returns-then-not-ends : goal.returns-then-not-ends
unfolding greatest_left
returns-then-not-ends c = rw (not-true c.args.ends (ap not c.if-not-ends.true))
