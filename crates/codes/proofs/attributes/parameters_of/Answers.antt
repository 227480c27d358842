-- `parameters_of` meets its contract: each test is the definition's.
use mathlib.Core.Path.{refl}
use Rattle.codes.specs.Attributes.{parameters_of}
use Rattle.codes.proofs.attributes.parameters_of.Goals as goal

pub returns : goal.returns
unfolding parameters_of
returns c = refl
