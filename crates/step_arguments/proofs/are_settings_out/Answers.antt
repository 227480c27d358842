-- `are_settings_out` meets its contract: its tests are the definition's.
use mathlib.Core.Path.{refl}
use Rattle.step_arguments.specs.Arguments.{settings_out}
use Rattle.step_arguments.proofs.are_settings_out.Goals as goal

pub returns : goal.returns
unfolding settings_out
returns c = refl
