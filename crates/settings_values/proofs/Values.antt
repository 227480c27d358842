-- Laws of the five values, in the terms of the functions that read them.
use Prim.Native.Nat.{ℕ, zero, suc, ◌+◌, ◌-◌, ◌*◌, ◌≤◌, ◌<◌, ◌%◌, ◌/◌}
use mathlib.Core.Path.{◌≡◌, refl, sym, ap, ◌∙◌}
use mathlib.Core.Bool.{Bool, true, false, cond, not, ◌&&◌, and-false}
use mathlib.Core.List.{List, [], ◌∷◌}
use native.Mathlib.Omega.{arith}
use borrow.Author.Tests.{lt-ltb, le-ltb, le-leb, lt-leb, eq-eqb, ne_eqb, eqb-true}
use lib.Dec.{leb, eqb}
use lib.ListN.{length, get_or, drop, replicate}
use lib.Seq.{sets, sets-eq}
use Rattle.octets.proofs.Choice.{never}
use Rattle.std.specs.Prelude.{Some, None}
use Rattle.std.specs.List.{starts_with}
use Rattle.settings_values.specs.Digits.{digit, digit_read, digits, octets_of, number_from}
use Rattle.settings_values.specs.Values.{key_read, classmark_read, identity_read, milliseconds_read, hex_of, decimal_from, decimal_of, padded}
use Rattle.settings_values.proofs.Digits.{digit_some, digit_no, hex_whole, hex_whole_lem}

-- `cksn=`
pub key-length : (text : List ℕ) → (length text ≡ 1 → ⊥) → None ≡ key_read text
unfolding key_read
key-length text h = rw (ne_eqb (length text) 1 h)

pub key-none : (text : List ℕ) → length text ≡ 1 → None ≡ digit_read (get_or text 0 0) → None ≡ key_read text
unfolding key_read digits
key-none [] h p = refl
key-none (b ∷ []) h p = let k : 16 ≤ digit b = digit_no b p in rw (le-ltb (digit b) 8 (omega arith))
key-none (b ∷ c ∷ text) h p = let z : ⊥ = omega arith in elim z [ ]

module _ (n : ℕ) where
  pub key_over : (text : List ℕ) → length text ≡ 1 → Some n ≡ digit_read (get_or text 0 0) → 8 ≤ n → None ≡ key_read text
  unfolding key_read digits
  key_over [] h p k = refl
  key_over (b ∷ []) h p k = rw (← (digit_some b n p).0, le-ltb n 8 k)
  key_over (b ∷ c ∷ text) h p k = let z : ⊥ = omega arith in elim z [ ]

  pub key-good : (text : List ℕ) → length text ≡ 1 → Some n ≡ digit_read (get_or text 0 0) → n < 8 → Some n ≡ key_read text
  unfolding key_read digits
  key-good [] h p k = let z : ⊥ = omega arith in elim z [ ]
  key-good (b ∷ []) h p k = rw (← (digit_some b n p).0, lt-ltb n 8 k)
  key-good (b ∷ c ∷ text) h p k = let z : ⊥ = omega arith in elim z [ ]

-- Octets that hex digits write.
pub octets-count : (count : ℕ) (text : List ℕ) → length text ≡ 2 * count → length (octets_of text) ≡ count
unfolding octets_of
octets-count zero [] h = refl
octets-count zero (a ∷ text) h = let z : ⊥ = omega arith in elim z [ ]
octets-count (suc count) [] h = let z : ⊥ = omega arith in elim z [ ]
octets-count (suc count) (a ∷ []) h = let z : ⊥ = omega arith in elim z [ ]
octets-count (suc count) (a ∷ b ∷ text) h = ap suc (octets-count count text (omega arith))

drop_replicate : (n m a : ℕ) → drop n (replicate m a) ≡ replicate (m - n) a
drop_replicate zero m a = let e : m - 0 ≡ m = omega arith in rw e
drop_replicate (suc n) zero a = let e : 0 - suc n ≡ 0 = omega arith in rw e
drop_replicate (suc n) (suc m) a = let e : suc m - suc n ≡ m - n = omega arith in rw e (drop_replicate n m a)

stored : (octets : List ℕ) → length octets ≤ 8 → sets (replicate 8 0) 0 octets ≡ padded octets
stored octets h =
    let k : 0 + length octets ≤ 8 = omega arith in
    let e : 0 + length octets ≡ length octets = omega arith in
    sets-eq octets (replicate 8 0) 0 k ∙ rw (e, drop_replicate (length octets) 8 0)

three : (o : List ℕ) → length o ≡ 3
    → let s : List ℕ = sets (replicate 8 0) 0 o in o ≡ get_or s 0 0 ∷ get_or s 1 0 ∷ get_or s 2 0 ∷ []
three [] h = let z : ⊥ = omega arith in elim z [ ]
three (a ∷ []) h = let z : ⊥ = omega arith in elim z [ ]
three (a ∷ b ∷ []) h = let z : ⊥ = omega arith in elim z [ ]
three (a ∷ b ∷ c ∷ []) h = refl
three (a ∷ b ∷ c ∷ d ∷ o) h = let z : ⊥ = omega arith in elim z [ ]

-- What was read of hex digits of even count, 16 at most.
module _ (text : List ℕ) (short : length text ≤ 16) (even : length text % 2 ≡ 0) where
  abbrev stores : List ℕ
  stores = sets (replicate 8 0) 0 (octets_of text)

  whole : hex_of text ≡ hex_whole (replicate 8 0) 0 text
  unfolding hex_of
  whole = hex_whole_lem 8 (replicate 8 0) 0 text short even

  hex_none : None ≡ hex_of text → digits 16 text ≡ false
  hex_none p = go (digits 16 text) (p ∙ whole)
    where
      go : (t : Bool) → None ≡ cond t (Some stores) None → t ≡ false
      go true q = absurd (cc)
      go false q = refl

  hex_some : (octets : List ℕ) → Some octets ≡ hex_of text → (digits 16 text ≡ true) × (octets ≡ stores)
  hex_some octets p = go (digits 16 text) (p ∙ whole)
    where
      go : (t : Bool) → Some octets ≡ cond t (Some stores) None → (t ≡ true) × (octets ≡ stores)
      go true q = (refl, cc)
      go false q = absurd (cc)

-- `classmark=`
pub classmark-length : (text : List ℕ) → (length text ≡ 6 → ⊥) → None ≡ classmark_read text
unfolding classmark_read
classmark-length text h = rw (ne_eqb (length text) 6 h)

module _ (text : List ℕ) (l : length text ≡ 6) where
  pub classmark-bad : None ≡ hex_of text → None ≡ classmark_read text
  unfolding classmark_read
  classmark-bad p = rw (hex_none text (omega arith) (omega arith) p, eq-eqb (length text) 6 l)

  pub classmark-good : (octets : List ℕ) → Some octets ≡ hex_of text
      → Some (get_or octets 0 0 ∷ get_or octets 1 0 ∷ get_or octets 2 0 ∷ []) ≡ classmark_read text
  unfolding classmark_read
  classmark-good octets p =
      let t = hex_some text (omega arith) (omega arith) octets p in
      let o : length (octets_of text) ≡ 3 = octets-count 3 text l in
      rw (t.0, eq-eqb (length text) 6 l, t.1) (ap Some (sym (three (octets_of text) o)))

-- `identity=`
pub identity_under : (text : List ℕ) → length text < 2 → None ≡ identity_read text
unfolding identity_read
identity_under text h = rw (lt-leb 2 (length text) h)

pub identity_over : (text : List ℕ) → 16 < length text → None ≡ identity_read text
unfolding identity_read
identity_over text h = rw (lt-leb (length text) 16 h, and-false (leb 2 (length text)))

pub identity_odd : (text : List ℕ) → (length text % 2 ≡ 0 → ⊥) → None ≡ identity_read text
unfolding identity_read
identity_odd text h = rw (ne_eqb (length text % 2) 0 h, and-false (leb 2 (length text) && leb (length text) 16))

module _ (text : List ℕ) (low : 2 ≤ length text) (high : length text ≤ 16) (even : length text % 2 ≡ 0) where
  pub identity-bad : None ≡ hex_of text → None ≡ identity_read text
  unfolding identity_read
  identity-bad p = rw (hex_none text high even p, le-leb 2 (length text) low, le-leb (length text) 16 high, eq-eqb (length text % 2) 0 even)

  pub identity-good : (octets : List ℕ) → Some octets ≡ hex_of text → Some (record { octets = octets; count = length text / 2 }) ≡ identity_read text
  unfolding identity_read
  identity-good octets p =
      let t = hex_some text high even octets p in
      let c : length (octets_of text) ≡ length text / 2 = octets-count (length text / 2) text (omega arith) in
      let o : octets ≡ padded (octets_of text) = t.1 ∙ stored (octets_of text) (omega arith) in
      rw (o, ← c, t.0, le-leb 2 (length text) low, le-leb (length text) 16 high, eq-eqb (length text % 2) 0 even)

-- A text that starts with the digit 0, and one that does not.
pub zero-first : (text : List ℕ) → starts_with eqb text (0x30 ∷ []) ≡ true → get_or text 0 0 ≡ 0x30
zero-first [] e = never e
zero-first (b ∷ text) e = sym (eqb-true 0x30 b (go (eqb 0x30 b) e))
  where
    go : (t : Bool) → (t && true) ≡ true → t ≡ true
    go true e = refl
    go false e = never e

pub zero-not-first : (text : List ℕ) → starts_with eqb text (0x30 ∷ []) ≡ false → get_or text 0 0 ≡ 0x30 → ⊥
zero-not-first [] e p = let z : ⊥ = omega arith in z
zero-not-first (b ∷ text) e p = never (sym e ∙ rw (eq-eqb 0x30 b (sym p)))

-- `conn_req_ms=` and `present_ms=`: milliseconds from a least to a greatest.
module _ (least greatest : ℕ) (text : List ℕ) where
  pub milliseconds-zero : get_or text 0 0 ≡ 0x30 → None ≡ milliseconds_read least greatest text
  unfolding milliseconds_read
  milliseconds-zero h = rw (eq-eqb (get_or text 0 0) 0x30 h, and-false (digits 10 text))

  -- What is no number up to the greatest is none from the least on.
  pub milliseconds-none : None ≡ decimal_of greatest text → None ≡ milliseconds_read least greatest text
  unfolding milliseconds_read decimal_of decimal_from
  milliseconds-none = go (digits 10 text) (not (eqb (get_or text 0 0) 0x30)) (leb (number_from 0 text) greatest)
    where
      go : (d z l : Bool) → None ≡ cond (d && l) (Some (number_from 0 text)) None
          → None ≡ cond (d && z && leb least (number_from 0 text) && l) (Some (number_from 0 text)) None
      go false z l q = refl
      go true false l q = refl
      go true true true q = absurd (cc)
      go true true false q = rw (and-false (leb least (number_from 0 text)))

  module _ (n : ℕ) (p : Some n ≡ decimal_of greatest text) where
    -- A number up to the greatest.
    number_is : (digits 10 text ≡ true) × (leb (number_from 0 text) greatest ≡ true) × (n ≡ number_from 0 text)
    unfolding decimal_of decimal_from
    number_is = go (digits 10 text) (leb (number_from 0 text) greatest) p
      where
        go : (d l : Bool) → Some n ≡ cond (d && l) (Some (number_from 0 text)) None → (d ≡ true) × (l ≡ true) × (n ≡ number_from 0 text)
        go false l q = absurd (cc)
        go true false q = absurd (cc)
        go true true q = (refl, refl, cc)

    pub milliseconds_under : n < least → None ≡ milliseconds_read least greatest text
    unfolding milliseconds_read
    milliseconds_under h =
        let m = number_is in
        rw (← m.2, lt-leb least n h, and-false (digits 10 text && not (eqb (get_or text 0 0) 0x30)))

    pub milliseconds-good : (get_or text 0 0 ≡ 0x30 → ⊥) → least ≤ n → Some n ≡ milliseconds_read least greatest text
    unfolding milliseconds_read
    milliseconds-good f h =
        let m = number_is in
        let l : leb n greatest ≡ true = rw m.2 m.1 in
        rw (m.0, ne_eqb (get_or text 0 0) 0x30 f, ← m.2, le-leb least n h, l)
