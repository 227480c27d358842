-- Texts that are read are written so: digits in either case, hex digits of even count.
use Prim.Native.Nat.{ℕ, ◌+◌, ◌-◌, ◌*◌, ◌/◌, ◌%◌, ◌≤◌, ◌<◌}
use mathlib.Core.Path.{◌≡◌, refl, sym, ◌∙◌}
use mathlib.Core.Bool.{Bool, true, false, ◌&&◌}
use mathlib.Core.List.{List, [], ◌∷◌}
use mathlib.Core.Logic.{inl, inr}
use native.Mathlib.Omega.{arith}
use borrow.Author.Tests.{lt-ltb, le-ltb, leb-true, ltb-true}
use lib.ListN.{length}
use Rattle.octets.proofs.Choice.{never, at_cond}
use Rattle.settings_values.specs.Digits.{between, digit, digits, octets_of}
use Rattle.settings_fit.specs.Written.{Digit, HexText, none, octet}
use Rattle.settings_values.proofs.Digits.{digit_decimal}

-- Both parts of a test that holds.
pub both : (a b : Bool) → (a && b) ≡ true → (a ≡ true) × (b ≡ true)
both true b e = (refl, e)
both false b e = never e

-- An octet that is a digit is written in upper or in lower case.
digit_is : (b : ℕ) → digit b < 16 → Digit (digit b) b
unfolding digit
digit_is b =
    at_cond P (between 0x30 b 0x39) _ _
    (λ e h. let k = span 0x30 0x39 e in let q : b - 0x30 < 10 = omega arith in inl (rw (lt-ltb (b - 0x30) 10 q) (omega arith)))
    λ _. at_cond P (between 0x41 b 0x46) _ _
    (λ e h. let k = span 0x41 0x46 e in let q : 10 ≤ b - 0x37 = omega arith in inl (rw (le-ltb (b - 0x37) 10 q) (omega arith)))
    λ _. at_cond P (between 0x61 b 0x66) _ _
    (λ e h. let k = span 0x61 0x66 e in let q : 10 ≤ b - 0x57 = omega arith in inr (rw (le-ltb (b - 0x57) 10 q) (omega arith)))
    λ _ h. let z : ⊥ = omega arith in elim z [ ]
  where
    P : ℕ → Type 0
    P n = n < 16 → Digit n b

    span : (low high : ℕ) → between low b high ≡ true → (low ≤ b) × (b ≤ high)
    span low high e = let k = both _ _ e in (leb-true _ _ k.0, leb-true _ _ k.1)

-- A decimal digit, as it is read again, and as it is written.
pub digit_low : (n : ℕ) → n < 10 → digit (0x30 + n) ≡ n
digit_low n h = sym (digit_decimal (0x30 + n) (omega arith) (omega arith)) ∙ omega arith

pub digit-low_is : (b : ℕ) → digit b < 10 → b ≡ 0x30 + digit b
digit-low_is b h = go (digit_is b (omega arith))
  where
    go : Digit (digit b) b → b ≡ 0x30 + digit b
    go (inl e) = e ∙ rw (lt-ltb (digit b) 10 h)
    go (inr e) = e ∙ rw (lt-ltb (digit b) 10 h)

-- Hex digits of even count write the octets that are read from them.
pub hex_is : (text : List ℕ) → digits 16 text ≡ true → length text % 2 ≡ 0 → HexText (octets_of text) text
unfolding digits octets_of
hex_is [] e h = none
hex_is (a ∷ []) e h = let z : ⊥ = omega arith in elim z [ ]
hex_is (a ∷ b ∷ text) e h =
    let p = both _ _ e in
    let q = both _ _ p.1 in
    let i : digit a < 16 = ltb-true _ _ p.0 in
    let j : digit b < 16 = ltb-true _ _ q.0 in
    let m : (16 * digit a + digit b) / 16 ≡ digit a = omega arith in
    let n : (16 * digit a + digit b) % 16 ≡ digit b = omega arith in
    let k : 16 * digit a + digit b < 256 = omega arith in
    let u : Digit ((16 * digit a + digit b) / 16) a = rw m (digit_is a i) in
    let v : Digit ((16 * digit a + digit b) % 16) b = rw n (digit_is b j) in
    octet k u v (hex_is text q.1 (omega arith))
