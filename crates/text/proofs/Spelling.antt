-- Laws of hexadecimal: the loops that write and read it, and what is refused.
use Prim.Native.Nat.{ℕ, suc, ◌+◌, ◌*◌, ◌/◌, ◌%◌, ◌≤◌, ◌<◌}
use mathlib.Core.Path.{◌≡◌, refl}
use mathlib.Core.Bool.{Bool, false}
use mathlib.Core.List.{List, [], ◌∷◌}
use native.Mathlib.Omega.{arith}
use native.Mathlib.Numerals.{add-one}
use lib.ListN.{length, get_or, drop, set, length-drop, drop_of_length-le}
use lib.Seq.{sets, drop-cons}
use borrow.Author.Tests.{le-leb, lt-leb, le-ltb, lt-ltb, eq-eqb, ne_eqb}
use Rattle.std.specs.Prelude.{Some, None}
use Rattle.text.specs.Hex.{digit_of, hex_of, value_of, digits_before, octets_of, spells, spelt, spelt_leaves}

-- Octets have twice as many digits.
pub hex_length : (os : List ℕ) → length (hex_of os) ≡ 2 * length os
unfolding hex_of
hex_length [] = refl
hex_length (o ∷ os) = let h : length (hex_of os) ≡ 2 * length os = hex_length os in omega arith

-- A turn of the loop that writes digits, and its end.
pub hex_turn : (b x os : List ℕ) (at i u v : ℕ) → i < length os → u ≡ digit_of (get_or os i 0 / 16) → v ≡ digit_of (get_or os i 0 % 16)
    → sets b (at + 2 * i) (hex_of (drop i os)) ≡ x
    → sets (set (set b (at + 2 * i) u) (at + 2 * i + 1) v) (at + 2 * (i + 1)) (hex_of (drop (i + 1) os)) ≡ x
unfolding hex_of
hex_turn b x os at i u v h d f e =
    let p : at + 2 * (i + 1) ≡ suc (suc (at + 2 * i)) = omega arith in
    let q : at + 2 * i + 1 ≡ suc (at + 2 * i) = omega arith in
    rw (p, q, add-one i, d, f) (rw (drop-cons os i 0 h) at e)

pub hex_done : (b x os : List ℕ) (at i : ℕ) → length os ≤ i → sets b (at + 2 * i) (hex_of (drop i os)) ≡ x → b ≡ x
unfolding hex_of
hex_done b x os at i h e = rw (drop_of_length-le os h) at e

-- A turn of the loop that reads digits, and its end.
pub octets-turn : (b x t : List ℕ) (at i u v : ℕ) → 2 * i + 1 < length t → u ≡ value_of (get_or t (2 * i) 0) → v ≡ value_of (get_or t (2 * i + 1) 0)
    → sets b (at + i) (octets_of (drop (2 * i) t)) ≡ x
    → sets (set b (at + i) (16 * u + v)) (at + (i + 1)) (octets_of (drop (2 * (i + 1)) t)) ≡ x
unfolding octets_of
octets-turn b x t at i u v h d f e =
    let p : 2 * (i + 1) ≡ suc (suc (2 * i)) = omega arith in
    let q : 2 * i + 1 ≡ suc (2 * i) = omega arith in
    let r : at + (i + 1) ≡ suc (at + i) = omega arith in
    let h₀ : 2 * i < length t = omega arith in
    let h₁ : suc (2 * i) < length t = omega arith in
    rw (d, f, p, q, r) (rw (drop-cons t (2 * i) 0 h₀, drop-cons t (suc (2 * i)) 0 h₁) at e)

few : (t : List ℕ) → length t ≤ 1 → octets_of t ≡ []
unfolding octets_of
few [] h = refl
few (c ∷ []) h = refl
few (c ∷ d ∷ cs) h = let z : ⊥ = omega arith in elim z [ ]

pub octets-done : (b x t : List ℕ) (at i : ℕ) → length t / 2 ≤ i → sets b (at + i) (octets_of (drop (2 * i) t)) ≡ x → b ≡ x
octets-done b x t at i h e =
    let l : length (drop (2 * i) t) ≤ 1 = simp length-drop (omega arith) in rw (few (drop (2 * i) t) l) at e

-- The ways to be refused, and the one to be read.

refused : (either : Bool) (t b : List ℕ) (at : ℕ) → spells either t b at ≡ false
    → (None ≡ spelt either t b at) × (b ≡ spelt_leaves either t b at)
unfolding spelt spelt_leaves
refused either t b at e = (simp e, simp e)

pub refused_odd : (either : Bool) (t b : List ℕ) (at : ℕ) → length t % 2 ≡ 1
    → (None ≡ spelt either t b at) × (b ≡ spelt_leaves either t b at)
unfolding spells
refused_odd either t b at h = refused either t b at (simp (eq-eqb _ _ h))

pub refused-digit : (either : Bool) (t b : List ℕ) (at : ℕ) → (length t % 2 ≡ 1 → ⊥) → digits_before either t < length t
    → (None ≡ spelt either t b at) × (b ≡ spelt_leaves either t b at)
unfolding spells
refused-digit either t b at h d = refused either t b at (simp (ne_eqb _ _ h, lt-ltb _ _ d))

pub refused-room : (either : Bool) (t b : List ℕ) (at : ℕ) → (length t % 2 ≡ 1 → ⊥) → length t ≤ digits_before either t
    → length b < at + length t / 2
    → (None ≡ spelt either t b at) × (b ≡ spelt_leaves either t b at)
unfolding spells
refused-room either t b at h d k = refused either t b at (simp (ne_eqb _ _ h, le-ltb _ _ d, lt-leb _ _ k))

pub read_whole : (either : Bool) (t b e : List ℕ) (at : ℕ) → (length t % 2 ≡ 1 → ⊥) → length t ≤ digits_before either t
    → at + length t / 2 ≤ length b → e ≡ sets b at (octets_of t)
    → (Some (length t / 2) ≡ spelt either t b at) × (e ≡ spelt_leaves either t b at)
unfolding spells spelt spelt_leaves
read_whole either t b e at h d k s = (simp (ne_eqb _ _ h, le-ltb _ _ d, le-leb _ _ k), simp (ne_eqb _ _ h, le-ltb _ _ d, le-leb _ _ k) s)
