-- `is_remembered` meets its contract: each test is the definition's.
use mathlib.Core.Path.{refl}
use Rattle.context_octets.specs.Octets.{is_remembered}
use Rattle.context_octets.proofs.is_remembered.Goals as goal

pub returns : goal.returns
unfolding is_remembered
returns c = refl
