-- The lines of a file. Document 01, "Settings file": "each ended by LF".
use Rattle.std.specs.Prelude.{ℕ, cond, List, [], ◌∷◌, eqb}
use Rattle.std.specs.List.{position_or_len}

-- A line is its octets without the LF that ends it; or the octets behind the last LF, which no LF ends.
pub data Line : Type 0 where
  Ended : List ℕ → Line
  Cut : List ℕ → Line

-- One octet more, in front of the first line.
abbrev pub longer : ℕ → List Line → List Line
longer b [] = Cut (b ∷ []) ∷ []
longer b (Ended octets ∷ rest) = Ended (b ∷ octets) ∷ rest
longer b (Cut octets ∷ rest) = Cut (b ∷ octets) ∷ rest

-- The lines of a file, in order; 10 is LF. Nothing behind the last LF is no line.
unfoldable pub lines : List ℕ → List Line
lines [] = []
lines (b ∷ file) = cond (eqb b 10) (Ended [] ∷ lines file) (longer b (lines file))

-- The place of the first LF, or the length where there is none.
abbrev pub first_feed : List ℕ → ℕ
first_feed file = position_or_len (λ b. eqb b 10) file
