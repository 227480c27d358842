-- Laws of a table's rows.
use Prim.Native.Nat.{ℕ}
use mathlib.Core.Path.{◌≡◌, refl}
use mathlib.Core.List.{List, [], ◌∷◌}
use lib.Dec.{eqb}
use borrow.Author.Tests.{ne_eqb, eqb-true, eqb-false}
use Rattle.octets.specs.Rows.{rows}
use Rattle.octets.proofs.Choice.{at_cond}

-- No row has the number `n`.
abbrev pub Absent : {A : Type 0} → ℕ → List (ℕ × A) → Type 0
Absent n [] = Unit {0}
Absent n (x ∷ xs) = (n ≡ x.0 → ⊥) × Absent n xs

-- Then the table says what it says otherwise.
pub other : {A : Type 0} (n : ℕ) (d : A) (xs : List (ℕ × A)) → Absent n xs → d ≡ rows n d xs
other n d [] h = refl
other n d (x ∷ xs) h = rw (ne_eqb n x.0 h.0) (other n d xs h.1)

-- The same as a match of the code tells it of its last arm: one refuted number after another, behind what was known before.
abbrev pub Refuted : {A : Type 0} → ℕ → Type 0 → List (ℕ × A) → Type 0
Refuted n known [] = known
Refuted n known (x ∷ xs) = Refuted n (known × (n ≡ x.0 → ⊥)) xs

refuted : {A : Type 0} (n : ℕ) (known : Type 0) (xs : List (ℕ × A)) → Refuted n known xs → known × Absent n xs
refuted n known [] h = (h, tt)
refuted n known (x ∷ xs) h = let p = refuted n (known × (n ≡ x.0 → ⊥)) xs h in (p.0.0, (p.0.1, p.1))

pub no_row : {A : Type 0} (n : ℕ) (d : A) (xs : List (ℕ × A)) → Refuted n (Unit {0}) xs → d ≡ rows n d xs
no_row n d xs h = other n d xs (refuted n (Unit {0}) xs h).1

-- What holds of each row when it is the one, and of "otherwise" when there is none, holds of what the table says.
abbrev pub Each : {A : Type 0} → (A → Type 0) → ℕ → List (ℕ × A) → Type 0
Each P n [] = Unit {0}
Each P n (x ∷ xs) = (n ≡ x.0 → P x.1) × Each P n xs

pub at_rows : {A : Type 0} (P : A → Type 0) (n : ℕ) (d : A) (xs : List (ℕ × A)) → Each P n xs → (Absent n xs → P d) → P (rows n d xs)
at_rows P n d [] ps otherwise = otherwise tt
at_rows P n d (x ∷ xs) ps otherwise =
    at_cond P (eqb n x.0) x.1 (rows n d xs) (λ e. ps.0 (eqb-true n x.0 e))
    (λ e. at_rows P n d xs ps.1 (λ absent. otherwise (eqb-false n x.0 e, absent)))
