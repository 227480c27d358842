-- `least_left` meets its contract: the later of the two.
use native.Mathlib.Omega.{arith}
use Rattle.judge_time.specs.Clock.{least_left}
use Rattle.judge_time.proofs.least_left.Goals as goal

pub returns-then-least-age : goal.returns-then-least-age
unfolding least_left
returns-then-least-age c = omega arith

pub returns : goal.returns
unfolding least_left
returns c = omega arith
