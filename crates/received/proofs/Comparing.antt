-- Octets that are compared one by one are the same exactly if the lists are.
use Prim.Native.Nat.{ℕ, ◌+◌, ◌-◌}
use mathlib.Core.Path.{◌≡◌, refl, sym, ap, ◌∙◌}
use mathlib.Core.List.{List, [], ◌∷◌}
use mathlib.Core.Bool.{Bool, true, false}
use native.Mathlib.Omega.{arith}
use lib.Dec.{eqb}
use borrow.Author.Tests.{eqb-true, eq-eqb}
use Rattle.octets.specs.Run.{part}
use Rattle.octets.proofs.Choice.{never}
use Rattle.context.proofs.Whole.{and_left, and_right, and_both}
use Rattle.received.specs.Received.{same_octets}

pub same_true : (a b : List ℕ) → same_octets a b ≡ true → a ≡ b
unfolding same_octets
same_true [] [] e = refl
same_true [] (y ∷ ys) e = never e
same_true (x ∷ xs) [] e = never e
same_true (x ∷ xs) (y ∷ ys) e =
    rw (eqb-true x y (and_left (eqb x y) _ e), same_true xs ys (and_right (eqb x y) _ e))

pub same_self : (a : List ℕ) → same_octets a a ≡ true
unfolding same_octets
same_self [] = refl
same_self (x ∷ xs) = and_both _ _ (eq-eqb x x refl) (same_self xs)

-- A test of the one is a test of the other.
pub same_by : (a b : List ℕ) (r : Bool) → (r ≡ true → a ≡ b) → (a ≡ b → r ≡ true) → r ≡ same_octets a b
same_by a b true p q = sym (rw (← p refl) (same_self a))
same_by a b false p q = go (same_octets a b) refl
  where
    go : (t : Bool) → same_octets a b ≡ t → false ≡ t
    go true e = q (same_true a b e)
    go false e = refl

-- The same of a part that ends at `start + count`.
pub same-part : (s identity : List ℕ) (start count : ℕ) (r : Bool) → (r ≡ true → part s start (start + count - start) ≡ identity)
    → (part s start (start + count - start) ≡ identity → r ≡ true) → r ≡ same_octets (part s start count) identity
same-part s identity start count r p q =
    let n : start + count - start ≡ count = omega arith in
    same_by _ _ r p q ∙ ap (λ (k : ℕ). same_octets (part s start k) identity) n
