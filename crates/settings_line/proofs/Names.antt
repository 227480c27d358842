-- Laws of `starts`: a line starts with a name if and only if its first octets are the name.
use Prim.Native.Nat.{ℕ}
use mathlib.Core.Path.{◌≡◌, refl}
use mathlib.Core.Bool.{Bool, true, false, ◌&&◌}
use mathlib.Core.List.{List, [], ◌∷◌}
use native.Mathlib.Omega.{arith}
use borrow.Author.Tests.{eqb-true, eq-eqb}
use lib.Dec.{eqb}
use lib.ListN.{length, take}
use lib.Pointwise.{pointwise}
use Rattle.octets.proofs.Choice.{never}
use Rattle.settings_line.specs.Line.{starts}

-- As the kit's search for a prefix compares them.
pub starts-pointwise : (name line : List ℕ) → pointwise eqb (take (length name) line) name ≡ starts name line
unfolding starts
starts-pointwise [] line = refl
starts-pointwise (n ∷ name) [] = refl
starts-pointwise (n ∷ name) (b ∷ line) = rw (starts-pointwise name line)

pub starts-true : (name line : List ℕ) → starts name line ≡ true → take (length name) line ≡ name
unfolding starts
starts-true [] line e = refl
starts-true (n ∷ name) [] e = never e
starts-true (n ∷ name) (b ∷ line) e = go (eqb b n) refl (starts-true name line) e
  where
    go : (t : Bool) → eqb b n ≡ t → (starts name line ≡ true → take (length name) line ≡ name) → (t && starts name line) ≡ true
        → b ∷ take (length name) line ≡ n ∷ name
    go true q ih e = let k : b ≡ n = eqb-true b n q in let i : take (length name) line ≡ name = ih e in cc
    go false q ih e = never e

pub true-starts : (name line : List ℕ) → take (length name) line ≡ name → starts name line ≡ true
unfolding starts
true-starts [] line e = refl
true-starts (n ∷ name) [] e = let z : ◌≡◌ {A = ℕ} 0 1 = cc in let y : ⊥ = omega arith in elim y [ ]
true-starts (n ∷ name) (b ∷ line) e =
    let k : b ≡ n = cc in let i : take (length name) line ≡ name = cc in rw (eq-eqb b n k) (true-starts name line i)
