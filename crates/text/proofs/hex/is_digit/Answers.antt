-- `is_digit` meets its contract: its tests are the definition's.
use Rattle.text.specs.Hex.{is_digit}
use mathlib.Core.Path.{refl}
use Rattle.text.proofs.hex.is_digit.Goals as goal

pub returns : goal.returns
unfolding is_digit
returns c = refl
