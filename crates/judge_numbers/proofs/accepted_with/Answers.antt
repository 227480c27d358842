-- `accepted_with` meets its contract: the timers fit C's numbers.
use mathlib.Core.Path.{refl}
use Rattle.judge_numbers.specs.Judging.{accepted_with}
use Rattle.judge_numbers.proofs.accepted_with.Goals as goal

pub returns : goal.returns
unfolding accepted_with
returns c = refl
