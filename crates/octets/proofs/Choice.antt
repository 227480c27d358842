-- Laws of a choice, `cond`, by a test.
use Prim.Native.Nat.{ℕ}
use mathlib.Core.Path.{◌≡◌, refl}
use mathlib.Core.Bool.{Bool, true, false, cond}
use native.Mathlib.Omega.{arith}

-- Where both ways say the same, the test does not matter.
pub cond_same : {A : Type 0} (t : Bool) (a : A) → cond t a a ≡ a
cond_same true a = refl
cond_same false a = refl

-- What holds of each way, when the test goes that way, holds of the choice.
pub at_cond : {A : Type 0} (P : A → Type 0) (t : Bool) (a b : A) → (t ≡ true → P a) → (t ≡ false → P b) → P (cond t a b)
at_cond P true a b yes_way no_way = yes_way refl
at_cond P false a b yes_way no_way = no_way refl

-- A test that is both proves anything.
pub never : {A : Type 0} → false ≡ true → A
never e = let z : ◌≡◌ {A = ℕ} 0 1 = cc in let y : ⊥ = omega arith in elim y [ ]
