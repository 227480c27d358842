-- Reading back what was written: hexadecimal of any octets, decimal of any number that fits.
use Prim.Native.Nat.{ℕ, zero, suc, ◌+◌, ◌*◌, ◌-◌, ◌/◌, ◌%◌, ◌≤◌, ◌<◌}
use mathlib.Core.Path.{◌≡◌, refl, sym, ap, ◌∙◌}
use mathlib.Core.Bool.{Bool, true, false, cond}
use mathlib.Core.List.{List, [], ◌∷◌, ◌++◌}
use native.Mathlib.Omega.{arith}
use lib.ListN.{length}
use mathlib.Core.List.{append_assoc, append-nil}
use lib.Seq.{sets}
use lib.Dec.{ltb}
use borrow.Author.Tests.{le-leb, lt-leb, le-ltb, ne_eqb, ltb-true, ltb-false}
use Rattle.std.specs.Prelude.{Some}
use Rattle.text.specs.Hex.{digit_of, hex_of, is_digit, value_of, digits_before, octets_of, spells, spelt, spelt_leaves}
use Rattle.text.specs.Decimal.{digits_from, number_of, digits_of, decimal_of}
use Rattle.text.proofs.Spelling.{hex_length}

-- Every member is an octet.
abbrev pub Octets : List ℕ → Type 0
Octets [] = Unit {0}
Octets (o ∷ os) = (o < 256) × Octets os

-- A half octet's digit has its value, and is a digit in either reading.
value-back : (h : ℕ) → h < 16 → value_of (digit_of h) ≡ h
unfolding value_of digit_of
value-back h l = go (ltb h 10) refl
  where
    go : (t : Bool) → ltb h 10 ≡ t → value_of (cond t (48 + h) (87 + h)) ≡ h
    go true e =
        let k : h < 10 = ltb-true _ _ e in
        simp (le-ltb (48 + h) 48 (omega arith), le-leb (48 + h) 57 (omega arith)) (omega arith)
    go false e =
        let k : 10 ≤ h = ltb-false _ _ e in
        simp (le-ltb (87 + h) 48 (omega arith), lt-leb (87 + h) 57 (omega arith), le-ltb (87 + h) 65 (omega arith), lt-leb (87 + h) 70 (omega arith), le-ltb (87 + h) 97 (omega arith), le-leb (87 + h) 102 (omega arith)) (omega arith)

digit-back : (either : Bool) (h : ℕ) → h < 16 → is_digit either (digit_of h) ≡ true
unfolding is_digit digit_of
digit-back either h l = go (ltb h 10) refl
  where
    go : (t : Bool) → ltb h 10 ≡ t → is_digit either (cond t (48 + h) (87 + h)) ≡ true
    go true e =
        let k : h < 10 = ltb-true _ _ e in
        simp (le-leb 48 (48 + h) (omega arith), le-leb (48 + h) 57 (omega arith))
    go false e =
        let k : 10 ≤ h = ltb-false _ _ e in
        simp (le-leb 48 (87 + h) (omega arith), lt-leb (87 + h) 57 (omega arith), le-leb 97 (87 + h) (omega arith), le-leb (87 + h) 102 (omega arith))

-- What hexadecimal spells is what it was written from.
pub hex_back : (os : List ℕ) → Octets os → octets_of (hex_of os) ≡ os
unfolding octets_of hex_of
hex_back [] h = refl
hex_back (o ∷ os) h =
    let l : o < 256 = h.0 in
    let u : o / 16 < 16 = omega arith in
    let v : o % 16 < 16 = omega arith in
    let e : 16 * (o / 16) + o % 16 ≡ o = omega arith in
    rw (value-back (o / 16) u, value-back (o % 16) v, hex_back os h.1, e) refl

-- And every character of it is a digit.
pub hex_digits : (either : Bool) (os : List ℕ) → Octets os → digits_before either (hex_of os) ≡ length (hex_of os)
unfolding digits_before hex_of
hex_digits either [] h = refl
hex_digits either (o ∷ os) h =
    let l : o < 256 = h.0 in
    let u : o / 16 < 16 = omega arith in
    let v : o % 16 < 16 = omega arith in
    rw (digit-back either (o / 16) u, digit-back either (o % 16) v, hex_digits either os h.1) refl

-- A number of at most `k` digits.
abbrev pub Fits : ℕ → ℕ → Type 0
Fits zero n = ⊥
Fits (suc k) n = 10 ≤ n → Fits k (n / 10)

-- Reading the digits of a number comes to the number, whatever stands behind them.
digits-back : (k n most : ℕ) (rest : List ℕ) → Fits k n → n ≤ most
    → digits_from most 0 (digits_of k n ++ rest) ≡ digits_from most n rest
unfolding digits_from digits_of
digits-back zero n most rest f l = elim f [ ]
digits-back (suc k) n most rest f l = go (ltb n 10) refl (digits-back k (n / 10) most)
  where
    go : (t : Bool) → ltb n 10 ≡ t
        → ((r : List ℕ) → Fits k (n / 10) → n / 10 ≤ most → digits_from most 0 (digits_of k (n / 10) ++ r) ≡ digits_from most (n / 10) r)
        → digits_from most 0 (cond t ((48 + n) ∷ []) (digits_of k (n / 10) ++ ((48 + n % 10) ∷ [])) ++ rest) ≡ digits_from most n rest
    go true e back =
        let h : n < 10 = ltb-true _ _ e in
        let s : 10 * 0 + (48 + n - 48) ≡ n = omega arith in
        rw (le-leb 48 (48 + n) (omega arith), le-leb (48 + n) 57 (omega arith), s, le-leb n most l) refl
    go false e back =
        let h : 10 ≤ n = ltb-false _ _ e in
        let q : n / 10 ≤ most = omega arith in
        let s : 10 * (n / 10) + (48 + n % 10 - 48) ≡ n = omega arith in
        rw (append_assoc, back ((48 + n % 10) ∷ rest) (f h) q, le-leb 48 (48 + n % 10) (omega arith), le-leb (48 + n % 10) 57 (omega arith), s, le-leb n most l) refl

-- The first digit of a number over 0 is no zero.
abbrev Leads : List ℕ → Type 0
Leads [] = ⊥
Leads (c ∷ cs) = 49 ≤ c

leads_append : (xs ys : List ℕ) → Leads xs → Leads (xs ++ ys)
leads_append [] ys h = elim h [ ]
leads_append (x ∷ xs) ys h = h

leads : (k n : ℕ) → Fits k n → 1 ≤ n → Leads (digits_of k n)
unfolding digits_of
leads zero n f l = elim f [ ]
leads (suc k) n f l = go (ltb n 10) refl (leads k (n / 10))
  where
    go : (t : Bool) → ltb n 10 ≡ t → (Fits k (n / 10) → 1 ≤ n / 10 → Leads (digits_of k (n / 10)))
        → Leads (cond t ((48 + n) ∷ []) (digits_of k (n / 10) ++ ((48 + n % 10) ∷ [])))
    go true e back = omega arith
    go false e back =
        let h : 10 ≤ n = ltb-false _ _ e in
        let q : 1 ≤ n / 10 = omega arith in
        leads_append (digits_of k (n / 10)) ((48 + n % 10) ∷ []) (back (f h) q)

led : (t : List ℕ) (most n : ℕ) → Leads t → digits_from most 0 t ≡ Some n
    → number_of t most ≡ Some n
unfolding number_of
led [] most n h e = elim h [ ]
led (c ∷ cs) most n h e =
    let z : c ≡ 48 → ⊥ = (λ k. omega arith) in
    let s : suc (length cs) ≡ 0 → ⊥ = (λ k. omega arith) in
    rw (ne_eqb _ _ s, ne_eqb _ _ z) e

twenty : (n : ℕ) → n ≤ 18446744073709551615 → Fits 20 n
twenty n l = λ h1 h2 h3 h4 h5 h6 h7 h8 h9 h10 h11 h12 h13 h14 h15 h16 h17 h18 h19 h20. omega arith

zero-back : (most : ℕ) → number_of (digits_of 20 0) most ≡ Some 0
unfolding number_of digits_of
zero-back most = refl

-- Reading a number that was written gives it back, within the limit.
pub decimal_back : (n most : ℕ) → n ≤ 18446744073709551615 → n ≤ most → number_of (decimal_of n) most ≡ Some n
unfolding decimal_of digits_from
decimal_back zero most l m = zero-back most
decimal_back (suc n) most l m =
    let f = twenty (suc n) l in
    let e : digits_from most 0 (digits_of 20 (suc n)) ≡ Some (suc n) =
    ap (digits_from most 0) (sym (append-nil (digits_of 20 (suc n)))) ∙ digits-back 20 (suc n) most [] f m in
    led (digits_of 20 (suc n)) most (suc n) (leads 20 (suc n) f (omega arith)) e

-- Reading octets that were written, where they have room, gives them back.
pub read_back : (either : Bool) (os b : List ℕ) (at : ℕ) → Octets os → at + length os ≤ length b
    → (spelt either (hex_of os) b at ≡ Some (length os)) × (spelt_leaves either (hex_of os) b at ≡ sets b at os)
unfolding spells spelt spelt_leaves
read_back either os b at h l =
    let n : length (hex_of os) ≡ 2 * length os = hex_length os in
    let even : length (hex_of os) % 2 ≡ 1 → ⊥ = (λ k. omega arith) in
    let half : length (hex_of os) / 2 ≡ length os = omega arith in
    let all : length (hex_of os) ≤ digits_before either (hex_of os) = rw (hex_digits either os h) (omega arith) in
    let room : at + length os ≤ length b = l in (
      rw (ne_eqb _ _ even, le-ltb _ _ all, half, le-leb _ _ room) refl,
      rw (ne_eqb _ _ even, le-ltb _ _ all, half, le-leb _ _ room, hex_back os h) refl,
    )
