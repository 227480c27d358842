-- A list of a known length, octet by octet.
use Prim.Native.Nat.{ℕ, zero, suc, ◌+◌}
use mathlib.Core.Path.{◌≡◌, ap, ◌∙◌}
use mathlib.Core.List.{List, [], ◌∷◌}
use native.Mathlib.Omega.{arith}
use lib.ListN.{length, get_or, drop, drop_of_length-le}
use lib.Seq.{drop-cons}

-- The `count` octets from a place on.
abbrev pub listed : (count at : ℕ) → List ℕ → List ℕ
listed zero at s = []
listed (suc count) at s = get_or s at 0 ∷ listed count (suc at) s

from_place : (count at : ℕ) (s : List ℕ) → length s ≡ at + count → drop at s ≡ listed count at s
from_place zero at s l = drop_of_length-le s {i = at} (omega arith)
from_place (suc count) at s l =
    let k : length s ≡ suc at + count = omega arith in
    drop-cons s at 0 (omega arith) ∙ ap (λ (rest : List ℕ). get_or s at 0 ∷ rest) (from_place count (suc at) s k)

pub all_listed : (count : ℕ) (s : List ℕ) → length s ≡ count → s ≡ listed count 0 s
all_listed count s l = from_place count 0 s (omega arith)
