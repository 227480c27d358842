-- `parameters_at` meets its contract: each test is the definition's.
use mathlib.Core.Path.{refl}
use Rattle.context_octets.specs.Octets.{parameters_at}
use Rattle.context_octets.proofs.parameters_at.Goals as goal

pub returns : goal.returns
unfolding parameters_at
returns c = refl
