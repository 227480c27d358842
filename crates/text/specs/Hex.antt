-- Octets in hexadecimal: two digits an octet, the upper half first.
use Rattle.std.specs.Prelude.{ℕ, suc, ◌+◌, ◌*◌, ◌-◌, ◌/◌, ◌%◌, Bool, false, cond, ◌&&◌, ◌||◌, List, [], ◌∷◌, length, leb, ltb, eqb, Option, Some, None}
use Rattle.std.proofs.lemmas.List.Edits.{sets}

-- The digit of a half octet, in lower case.
unfoldable pub digit_of : ℕ → ℕ
digit_of half = cond (ltb half 10) (48 + half) (87 + half)

-- The digits of octets.
unfoldable pub hex_of : List ℕ → List ℕ
hex_of [] = []
hex_of (o ∷ os) = digit_of (o / 16) ∷ digit_of (o % 16) ∷ hex_of os

-- Whether a character is a digit, in lower case or, where `either` says so, in upper case.
unfoldable pub is_digit : Bool → ℕ → Bool
is_digit either c = (leb 48 c && leb c 57) || (leb 97 c && leb c 102) || (either && (leb 65 c && leb c 70))

-- The value of a digit of either case, and 0 of what is none.
unfoldable pub value_of : ℕ → ℕ
value_of c =
    cond (ltb c 48) 0
    (cond (leb c 57) (c - 48)
    (cond (ltb c 65) 0
    (cond (leb c 70) (c - 55)
    (cond (ltb c 97) 0
    (cond (leb c 102) (c - 87) 0)))))

-- How many digits stand before the first character that is none.
unfoldable pub digits_before : Bool → List ℕ → ℕ
digits_before either [] = 0
digits_before either (c ∷ cs) = cond (is_digit either c) (suc (digits_before either cs)) 0

-- The octets that digits spell, two by two.
unfoldable pub octets_of : List ℕ → List ℕ
octets_of [] = []
octets_of (c ∷ []) = []
octets_of (c ∷ d ∷ cs) = (16 * value_of c + value_of d) ∷ octets_of cs

-- Whether a text is hexadecimal whose octets have room in a buffer from `at` on.
unfoldable pub spells : Bool → List ℕ → List ℕ → ℕ → Bool
spells either text buffer at =
    cond (eqb (length text % 2) 1) false
    (cond (ltb (digits_before either text) (length text)) false (leb (at + length text / 2) (length buffer)))

-- What reading such a text comes to, and what it leaves in the buffer: a text that is refused leaves it as it was.
unfoldable pub spelt : Bool → List ℕ → List ℕ → ℕ → Option ℕ
spelt either text buffer at =
    cond (spells either text buffer at) (Some (length text / 2)) None

unfoldable pub spelt_leaves : Bool → List ℕ → List ℕ → ℕ → List ℕ
spelt_leaves either text buffer at = cond (spells either text buffer at) (sets buffer at (octets_of text)) buffer
