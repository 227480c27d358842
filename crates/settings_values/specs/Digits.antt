-- Digits, and the octets and numbers that they write. Document 01, "Settings file": "hex digits", "decimal", "Upper or lower hex".
use Rattle.std.specs.Prelude.{ℕ, ◌+◌, ◌-◌, ◌*◌, Bool, true, cond, ◌&&◌, Option, Some, None, List, [], ◌∷◌, leb, ltb}

-- `b` lies between the two, or is one of them.
abbrev pub between : ℕ → ℕ → ℕ → Bool
between low b high = leb low b && leb b high

-- What an octet is as a digit: 0 to 15 for `0` to `9`, `A` to `F` or `a` to `f`, and 16 for what is no digit.
unfoldable pub digit : ℕ → ℕ
digit b =
    cond (between 0x30 b 0x39) (b - 0x30)
    (cond (between 0x41 b 0x46) (b - 0x37)
    (cond (between 0x61 b 0x66) (b - 0x57) 16))

-- The same for the function that reads a digit: none in place of 16.
unfoldable pub digit_read : ℕ → Option ℕ
digit_read b = cond (ltb (digit b) 16) (Some (digit b)) None

-- Every octet is a digit below the base: 16 for hex digits, 10 for decimal ones, 8 for 0 to 7.
unfoldable pub digits : ℕ → List ℕ → Bool
digits base [] = true
digits base (b ∷ text) = ltb (digit b) base && digits base text

-- The octets that hex digits write: two digits an octet, the first one times 16.
unfoldable pub octets_of : List ℕ → List ℕ
octets_of [] = []
octets_of (high ∷ []) = []
octets_of (high ∷ low ∷ text) = (16 * digit high + digit low) ∷ octets_of text

-- The number that decimal digits write behind digits that wrote `n`.
unfoldable pub number_from : ℕ → List ℕ → ℕ
number_from n [] = n
number_from n (b ∷ text) = number_from (10 * n + digit b) text
