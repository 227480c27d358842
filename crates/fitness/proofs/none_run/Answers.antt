-- `none_run` meets its contract.
use mathlib.Core.Path.{refl}
use Rattle.fitness.proofs.none_run.Goals as goal

pub returns : goal.returns
returns c = refl
