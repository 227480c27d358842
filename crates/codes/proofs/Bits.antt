-- Laws of a bit's weight.
use Prim.Native.Nat.{ℕ, ◌≤◌}
use mathlib.Core.Path.{◌≡◌}
use mathlib.Core.Bool.{Bool, true, false}
use native.Mathlib.Omega.{arith}
use Rattle.codes.specs.Attributes.{weighs}

-- A bit weighs at most its weight.
pub bit-most : (set : Bool) (weight r : ℕ) → r ≡ weighs set weight → r ≤ weight
unfolding weighs
bit-most true weight r e = omega arith
bit-most false weight r e = omega arith
