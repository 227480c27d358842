-- Numbers in decimal: no sign, no zero in front.
use Rattle.std.specs.Prelude.{ℕ, zero, suc, ◌+◌, ◌*◌, ◌-◌, ◌/◌, ◌%◌, cond, ◌&&◌, List, [], ◌∷◌, ◌++◌, length, get_or, leb, ltb, eqb, Option, Some, None}

-- The number that digits spell behind those that came to `sofar`; none where a character is no digit or the number passes `most`.
unfoldable pub digits_from : ℕ → ℕ → List ℕ → Option ℕ
digits_from most sofar [] = Some sofar
digits_from most sofar (c ∷ cs) =
    cond (leb 48 c && leb c 57)
    (cond (leb (10 * sofar + (c - 48)) most) (digits_from most (10 * sofar + (c - 48)) cs) None)
    None

-- The number of at most `most` that a text is; a zero in front stands alone.
unfoldable pub number_of : List ℕ → ℕ → Option ℕ
number_of text most =
    cond (eqb (length text) 0) None
    (cond (eqb (get_or text 0 0) 48) (cond (eqb (length text) 1) (Some 0) None)
    (digits_from most 0 text))

-- The last digits of a number, at most `k`.
unfoldable pub digits_of : ℕ → ℕ → List ℕ
digits_of zero n = []
digits_of (suc k) n = cond (ltb n 10) ((48 + n) ∷ []) (digits_of k (n / 10) ++ ((48 + n % 10) ∷ []))

-- A number below 2 ^ 64 has at most 20 digits.
unfoldable pub decimal_of : ℕ → List ℕ
decimal_of n = digits_of 20 n
