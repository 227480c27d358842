-- Laws of lines and words: the loops that find a byte and compare texts, and the ways to a word.
use Prim.Native.Nat.{ℕ, ◌+◌, ◌-◌, ◌≤◌, ◌<◌}
use mathlib.Core.Path.{◌≡◌, sym, ◌∙◌}
use mathlib.Core.List.{List, []}
use native.Mathlib.Omega.{arith}
use lib.ListN.{length, drop, take, length-drop}
use lib.Seq.{take-length}
use borrow.Author.Tests.{le-leb, lt-leb, le-ltb, lt-ltb, eq-eqb, ne_eqb}
use Rattle.std.specs.Prelude.{Some, None}
use Rattle.text.specs.Words.{place_of, part_of, word_from}

-- A part that is there, and one that is not.
pub part_none : (s : List ℕ) (start count : ℕ) → length s < start + count → [] ≡ part_of s start count
unfolding part_of
part_none s start count h = simp (lt-leb _ _ h)

pub part-there : (s : List ℕ) (start count : ℕ) → start + count ≤ length s → take (start + count - start) (drop start s) ≡ part_of s start count
unfolding part_of
part-there s start count h = let e : start + count - start ≡ count = omega arith in rw (e, le-leb _ _ h)

-- What a lent part from `at` to the end holds.
rest : (s : List ℕ) (at : ℕ) → take (length s - at) (drop at s) ≡ drop at s
rest s at = rw (← length-drop at s) (take-length (drop at s))

-- The ways to a word.
pub word_past : (s : List ℕ) (at : ℕ) → length s < at → None ≡ word_from s at
unfolding word_from
word_past s at h = simp (lt-ltb _ _ h)

pub word_empty : (s : List ℕ) (at n : ℕ) → at ≤ length s → n ≡ place_of 32 (take (length s - at) (drop at s)) → n ≡ 0 → None ≡ word_from s at
unfolding word_from
word_empty s at n h e z = let q : place_of 32 (drop at s) ≡ 0 = sym (rw (rest s at) at e) ∙ z in simp (le-ltb _ _ h, eq-eqb _ _ q)

pub word_there : (s : List ℕ) (at n : ℕ) → at ≤ length s → n ≡ place_of 32 (take (length s - at) (drop at s)) → (n ≡ 0 → ⊥)
    → Some (record { start = at; count = n; next = at + n + 1 }) ≡ word_from s at
unfolding word_from
word_there s at n h e z =
    let f : n ≡ place_of 32 (drop at s) = rw (rest s at) at e in
    let q : place_of 32 (drop at s) ≡ 0 → ⊥ = (λ k. z (f ∙ k)) in
    rw f (simp (le-ltb _ _ h, ne_eqb _ _ q))
