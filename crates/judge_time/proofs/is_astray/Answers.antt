-- `is_astray` meets its contract: its tests are the definition's.
use mathlib.Core.Path.{refl}
use Rattle.judge_time.specs.Clock.{astray}
use Rattle.judge_time.proofs.is_astray.Goals as goal

pub returns : goal.returns
unfolding astray
returns c = refl
