-- `window_left` meets its contract: another timer's lengths stay, this one's are narrowed at both ends.
use mathlib.Core.Bool.{not}
use mathlib.Core.Path.{ap}
use mathlib.Core.Bool.{not}
use mathlib.Core.Path.{ap}
use borrow.Author.Tests.{not-true, not-false}
use Rattle.judge_time.specs.Clock.{window_left}
use Rattle.judge_time.proofs.window_left.Goals as goal

pub returns-then-not-mine : goal.returns-then-not-mine
unfolding window_left
returns-then-not-mine c = rw (not-true c.args.mine (ap not c.if-not-mine.true))

pub returns : goal.returns
unfolding window_left
returns c = rw (not-false c.args.mine (ap not c.if-not-mine.false), ← c.least_left-least.ensures, ← c.greatest_left-greatest.ensures)
