-- Laws of lines: the first line of a file, by the place of its first LF.
use Prim.Native.Nat.{ℕ, suc, ◌+◌, ◌≤◌, ◌<◌}
use mathlib.Core.Path.{◌≡◌, refl, ap}
use mathlib.Core.Bool.{Bool, true, false, cond, not}
use mathlib.Core.List.{List, [], ◌∷◌}
use native.Mathlib.Omega.{arith}
use lib.Dec.{eqb}
use lib.ListN.{length, take, drop}
use Rattle.settings.specs.Lines.{Ended, Cut, longer, lines, first_feed}

-- Where there is an LF, what stands before the first one is a line, and what stands behind it are the others.
pub line-ended : (w : List ℕ) → first_feed w < length w
    → lines w ≡ Ended (take (first_feed w) w) ∷ lines (drop (suc (first_feed w)) w)
unfolding lines
line-ended [] h = let z : ⊥ = omega arith in elim z [ ]
line-ended (b ∷ w) h = go (eqb b 10) (line-ended w) h
  where
    go : (t : Bool) → (first_feed w < length w → lines w ≡ Ended (take (first_feed w) w) ∷ lines (drop (suc (first_feed w)) w))
        → cond (not t) (1 + first_feed w) 0 < suc (length w)
        → cond t (Ended [] ∷ lines w) (longer b (lines w))
        ≡ Ended (take (cond (not t) (1 + first_feed w) 0) (b ∷ w)) ∷ lines (drop (suc (cond (not t) (1 + first_feed w) 0)) (b ∷ w))
    go true ih h = refl
    go false ih h = let e : 1 + first_feed w ≡ suc (first_feed w) = omega arith in rw e (ap (longer b) (ih (omega arith)))

-- Where there is none, the file is one line that no LF ends.
pub line-cut : (w : List ℕ) → length w ≤ first_feed w → 0 < length w → lines w ≡ Cut w ∷ []
unfolding lines
line-cut [] h k = let z : ⊥ = omega arith in elim z [ ]
line-cut (b ∷ w) h k = go (eqb b 10) w (line-cut w) h
  where
    go : (t : Bool) (w : List ℕ) → (length w ≤ first_feed w → 0 < length w → lines w ≡ Cut w ∷ [])
        → suc (length w) ≤ cond (not t) (1 + first_feed w) 0
        → cond t (Ended [] ∷ lines w) (longer b (lines w)) ≡ Cut (b ∷ w) ∷ []
    go true w ih h = let z : ⊥ = omega arith in elim z [ ]
    go false [] ih h = refl
    go false (a ∷ w) ih h = ap (longer b) (ih (omega arith) (omega arith))
