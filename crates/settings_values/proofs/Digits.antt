-- Laws of digits, and of the octets and numbers that they write, in the terms of the loops that read them.
use Prim.Native.Nat.{ℕ, zero, suc, ◌+◌, ◌-◌, ◌*◌, ◌%◌, ◌≤◌, ◌<◌}
use mathlib.Core.Path.{◌≡◌, refl, sym, ap, ◌∙◌}
use mathlib.Core.Bool.{Bool, true, false, cond, ◌&&◌, and-false}
use mathlib.Core.List.{List, [], ◌∷◌}
use native.Mathlib.Omega.{arith}
use native.Mathlib.Numerals.{add-one}
use borrow.Author.Tests.{lt-ltb, le-ltb, le-leb, lt-leb, ltb-true, ltb-false}
use lib.Dec.{leb, ltb}
use lib.ListN.{length, get_or, drop, set, drop_of_length-le, length-drop}
use lib.Seq.{drop-cons, sets}
use Rattle.std.specs.Prelude.{Option, Some, None}
use Rattle.settings_values.specs.Digits.{between, digit, digit_read, digits, octets_of, number_from}
use Rattle.settings_values.specs.Values.{hex_from, decimal_from}

-- An octet inside a range, below it and above it.
inside : (low b high : ℕ) → low ≤ b → b ≤ high → between low b high ≡ true
inside low b high h k = rw (le-leb low b h, le-leb b high k)

pub below : (low b high : ℕ) → b < low → between low b high ≡ false
below low b high h = rw (lt-leb low b h)

pub above : (low b high : ℕ) → high < b → between low b high ≡ false
above low b high h = rw (lt-leb b high h) (and-false (leb low b))

-- What each range of octets is as a digit, and the gaps between them.
module _ (b : ℕ) where
  pub digit_decimal : 0x30 ≤ b → b ≤ 0x39 → b - 0x30 ≡ digit b
  unfolding digit
  digit_decimal h k = rw (inside 0x30 b 0x39 h k)

  pub digit-upper : 0x41 ≤ b → b ≤ 0x46 → b - 0x37 ≡ digit b
  unfolding digit
  digit-upper h k = rw (above 0x30 b 0x39 (omega arith), inside 0x41 b 0x46 h k)

  pub digit-lower : 0x61 ≤ b → b ≤ 0x66 → b - 0x57 ≡ digit b
  unfolding digit
  digit-lower h k = rw (above 0x30 b 0x39 (omega arith), above 0x41 b 0x46 (omega arith), inside 0x61 b 0x66 h k)

  pub digit-none : between 0x30 b 0x39 ≡ false → between 0x41 b 0x46 ≡ false → between 0x61 b 0x66 ≡ false → 16 ≡ digit b
  unfolding digit
  digit-none h k l = rw (h, k, l)

-- A digit that is read, and an octet that is none.
module _ (b : ℕ) where
  pub digit_is_read : (n : ℕ) → n ≡ digit b → n < 16 → Some n ≡ digit_read b
  unfolding digit_read
  digit_is_read n p h = rw (← p, lt-ltb n 16 h)

  pub digit_not_read : 16 ≡ digit b → None ≡ digit_read b
  unfolding digit_read
  digit_not_read p = rw (← p)

  pub digit_some : (n : ℕ) → Some n ≡ digit_read b → (n ≡ digit b) × (n < 16)
  unfolding digit_read
  digit_some n = go (ltb (digit b) 16) refl
    where
      go : (t : Bool) → ltb (digit b) 16 ≡ t → Some n ≡ cond t (Some (digit b)) None → (n ≡ digit b) × (n < 16)
      go true q e = let k : n ≡ digit b = cc in let h : digit b < 16 = ltb-true (digit b) 16 q in (k, omega arith)
      go false q e = absurd (cc)

  pub digit_no : None ≡ digit_read b → 16 ≤ digit b
  unfolding digit_read
  digit_no = go (ltb (digit b) 16) refl
    where
      go : (t : Bool) → ltb (digit b) 16 ≡ t → None ≡ cond t (Some (digit b)) None → 16 ≤ digit b
      go true q e = absurd (cc)
      go false q e = ltb-false (digit b) 16 q

-- The next two of the digits, and the next one.
two_next : (text : List ℕ) (place : ℕ) → 2 * place + 1 < length text
    → drop (2 * place) text ≡ get_or text (2 * place) 0 ∷ get_or text (2 * place + 1) 0 ∷ drop (2 * (place + 1)) text
two_next text place h =
    let k : 2 * place < length text = omega arith in
    let m : suc (2 * place) < length text = omega arith in
    let n : 2 * (place + 1) ≡ suc (suc (2 * place)) = omega arith in
    rw (n, add-one) (drop-cons text (2 * place) 0 k ∙ ap (get_or text (2 * place) 0 ∷◌) (drop-cons text (suc (2 * place)) 0 m))

-- A turn of the loop that reads hex digits.
module _ (octets : List ℕ) (place : ℕ) (text : List ℕ) (room : place < 8) (h : 2 * place + 1 < length text) where
  abbrev turn : Option (List ℕ)
  turn = hex_from (8 - place) octets place (drop (2 * place) text)

  one_left : 8 - place ≡ suc (8 - (place + 1))
  one_left = omega arith

  pub hex_next : (high low : ℕ) → Some high ≡ digit_read (get_or text (2 * place) 0) → Some low ≡ digit_read (get_or text (2 * place + 1) 0)
      → turn ≡ hex_from (8 - (place + 1)) (set octets place (16 * high + low)) (place + 1) (drop (2 * (place + 1)) text)
  unfolding hex_from
  hex_next high low p q =
      let a = digit_some _ high p in
      let b = digit_some _ low q in
      rw (one_left, two_next text place h, ← a.0, ← b.0, lt-ltb high 16 a.1, lt-ltb low 16 b.1, add-one place)

  pub hex_high : None ≡ digit_read (get_or text (2 * place) 0) → None ≡ turn
  unfolding hex_from
  hex_high p = rw (one_left, two_next text place h, le-ltb _ 16 (digit_no _ p))

  pub hex_low : None ≡ digit_read (get_or text (2 * place + 1) 0) → None ≡ turn
  unfolding hex_from
  hex_low p = rw (one_left, two_next text place h, le-ltb _ 16 (digit_no _ p), and-false (ltb (digit (get_or text (2 * place) 0)) 16))

-- The loop's end: no two digits are left, or eight octets are full.
few : (left : ℕ) (octets : List ℕ) (place : ℕ) (text : List ℕ) → length text < 2
    → hex_from left octets place text ≡ Some octets
unfolding hex_from
few zero octets place text h = refl
few (suc left) octets place [] h = refl
few (suc left) octets place (a ∷ []) h = refl
few (suc left) octets place (a ∷ b ∷ text) h = let z : ⊥ = omega arith in elim z [ ]

pub hex_end : (octets : List ℕ) (place : ℕ) (text : List ℕ) → length text < 2 * place + 2
    → hex_from (8 - place) octets place (drop (2 * place) text) ≡ Some octets
hex_end octets place text h =
    let d : length (drop (2 * place) text) ≡ length text - 2 * place = length-drop (2 * place) text in
    few (8 - place) octets place (drop (2 * place) text) (omega arith)

pub hex_full : (octets : List ℕ) (place : ℕ) (text : List ℕ) → 8 ≤ place
    → hex_from (8 - place) octets place text ≡ Some octets
unfolding hex_from
hex_full octets place text h = let e : 8 - place ≡ 0 = omega arith in rw e

-- Hex digits of even count, no more than there is room for, are read whole.
abbrev pub hex_whole : List ℕ → ℕ → List ℕ → Option (List ℕ)
hex_whole octets place text = cond (digits 16 text) (Some (sets octets place (octets_of text))) None

pub hex_whole_lem : (left : ℕ) (octets : List ℕ) (place : ℕ) (text : List ℕ) → length text ≤ 2 * left → length text % 2 ≡ 0
    → hex_from left octets place text ≡ hex_whole octets place text
unfolding hex_from digits octets_of
hex_whole_lem zero octets place [] h e = refl
hex_whole_lem zero octets place (a ∷ text) h e = let z : ⊥ = omega arith in elim z [ ]
hex_whole_lem (suc left) octets place [] h e = refl
hex_whole_lem (suc left) octets place (a ∷ []) h e = let z : ⊥ = omega arith in elim z [ ]
hex_whole_lem (suc left) octets place (a ∷ b ∷ text) h e =
    go (ltb (digit a) 16) (ltb (digit b) 16) (hex_whole_lem left (set octets place (16 * digit a + digit b)) (suc place) text (omega arith) (omega arith))
  where
    go : (s t : Bool) → hex_from left (set octets place (16 * digit a + digit b)) (suc place) text ≡ hex_whole (set octets place (16 * digit a + digit b)) (suc place) text
        → cond (s && t) (hex_from left (set octets place (16 * digit a + digit b)) (suc place) text) None
        ≡ cond (s && (t && digits 16 text)) (Some (sets octets place ((16 * digit a + digit b) ∷ octets_of text))) None
    go true true ih = ih
    go true false ih = refl
    go false t ih = refl

-- A number does not fall by further digits.
pub number_grows : (n : ℕ) (text : List ℕ) → n ≤ number_from n text
unfolding number_from
number_grows n [] = omega arith
number_grows n (b ∷ text) = let h : 10 * n + digit b ≤ number_from (10 * n + digit b) text = number_grows (10 * n + digit b) text in omega arith

-- A number that is at most some greatest, in the terms of the loop that reads it.
module _ (greatest : ℕ) where
  over : (n : ℕ) (text : List ℕ) → greatest < n → decimal_from greatest n text ≡ None
  unfolding decimal_from
  over n text h =
      let g : n ≤ number_from n text = number_grows n text in
      let k : greatest < number_from n text = omega arith in
      rw (lt-leb (number_from n text) greatest k, and-false (digits 10 text))

  decimal_one : (n b : ℕ) (text : List ℕ) → digit b < 10 → decimal_from greatest n (b ∷ text) ≡ decimal_from greatest (10 * n + digit b) text
  unfolding decimal_from digits number_from
  decimal_one n b text h = rw (lt-ltb (digit b) 10 h)

  -- A turn of the loop.
  module _ (n place : ℕ) (text : List ℕ) (h : place < length text) where
    pub decimal_none : None ≡ digit_read (get_or text place 0) → None ≡ decimal_from greatest n (drop place text)
    unfolding decimal_from digits
    decimal_none p = let k : 16 ≤ digit (get_or text place 0) = digit_no _ p in rw (drop-cons text place 0 h, le-ltb (digit (get_or text place 0)) 10 (omega arith))

    module _ (next : ℕ) (p : Some next ≡ digit_read (get_or text place 0)) where
      pub decimal_next : next < 10 → decimal_from greatest n (drop place text) ≡ decimal_from greatest (10 * n + next) (drop (place + 1) text)
      decimal_next k =
          let d = digit_some _ next p in
          let j : digit (get_or text place 0) < 10 = omega arith in
          rw (drop-cons text place 0 h, decimal_one n (get_or text place 0) (drop (suc place) text) j, ← d.0, add-one place)

      pub decimal_bad : 10 ≤ next → None ≡ decimal_from greatest n (drop place text)
      unfolding decimal_from digits
      decimal_bad k = let d = digit_some _ next p in rw (drop-cons text place 0 h, ← d.0, le-ltb next 10 k)

      pub decimal_over : next < 10 → greatest < 10 * n + next → None ≡ decimal_from greatest n (drop place text)
      decimal_over k l = sym (decimal_next k ∙ over (10 * n + next) (drop (place + 1) text) l)

  pub decimal_end : (n place : ℕ) (text : List ℕ) → n ≤ greatest → length text ≤ place → decimal_from greatest n (drop place text) ≡ Some n
  unfolding decimal_from digits number_from
  decimal_end n place text k h = rw (drop_of_length-le text h, le-leb n greatest k)
