-- Laws of decimal numbers: the loop that reads one, and the digits that are written.
use Prim.Native.Nat.{ℕ, zero, suc, ◌+◌, ◌*◌, ◌-◌, ◌/◌, ◌%◌, ◌≤◌, ◌<◌}
use mathlib.Core.Path.{◌≡◌, refl}
use mathlib.Core.Bool.{Bool, true, false, cond}
use mathlib.Core.List.{List, [], ◌∷◌, ◌++◌}
use native.Mathlib.Omega.{arith}
use native.Mathlib.Numerals.{add-one}
use native.Mathlib.Nat.{zero-add}
use lib.ListN.{length, get_or, drop, set, length-append, drop_of_length-le}
use lib.Seq.{sets, drop-cons}
use lib.Dec.{ltb}
use borrow.Author.Tests.{le-leb, lt-leb, le-ltb, lt-ltb, eq-eqb, ne_eqb}
use Rattle.octets.proofs.Stores.{sets-append}
use Rattle.std.specs.Prelude.{Option, Some, None}
use Rattle.text.specs.Decimal.{digits_from, number_of, digits_of}

-- A turn of the loop that reads: a character that is a digit, one that is none, a number that passes the limit; and the loop's end.
pub number-on : (most sofar : ℕ) (t : List ℕ) (i d : ℕ) (x : Option ℕ) → i < length t → d ≡ get_or t i 0 → 48 ≤ d → d ≤ 57
    → 10 * sofar + (d - 48) ≤ most → digits_from most sofar (drop i t) ≡ x → digits_from most (10 * sofar + (d - 48)) (drop (i + 1) t) ≡ x
unfolding digits_from
number-on most sofar t i d x h e l u k p =
    rw (add-one i) (rw (drop-cons t i 0 h, ← e, le-leb _ _ l, le-leb _ _ u, le-leb _ _ k) at p)

pub number_below : (most sofar : ℕ) (t : List ℕ) (i d : ℕ) (x : Option ℕ) → i < length t → d ≡ get_or t i 0 → d < 48
    → digits_from most sofar (drop i t) ≡ x → None ≡ x
unfolding digits_from
number_below most sofar t i d x h e l p = rw (drop-cons t i 0 h, ← e, lt-leb _ _ l) at p

pub number_above : (most sofar : ℕ) (t : List ℕ) (i d : ℕ) (x : Option ℕ) → i < length t → d ≡ get_or t i 0 → 48 ≤ d → 57 < d
    → digits_from most sofar (drop i t) ≡ x → None ≡ x
unfolding digits_from
number_above most sofar t i d x h e l u p = rw (drop-cons t i 0 h, ← e, le-leb _ _ l, lt-leb _ _ u) at p

pub number_past : (most sofar : ℕ) (t : List ℕ) (i d : ℕ) (x : Option ℕ) → i < length t → d ≡ get_or t i 0 → 48 ≤ d → d ≤ 57
    → most < 10 * sofar + (d - 48) → digits_from most sofar (drop i t) ≡ x → None ≡ x
unfolding digits_from
number_past most sofar t i d x h e l u k p =
    rw (drop-cons t i 0 h, ← e, le-leb _ _ l, le-leb _ _ u, lt-leb _ _ k) at p

pub number-done : (most sofar : ℕ) (t : List ℕ) (i : ℕ) (x : Option ℕ) → length t ≤ i
    → digits_from most sofar (drop i t) ≡ x → Some sofar ≡ x
unfolding digits_from
number-done most sofar t i x h p = rw (drop_of_length-le t h) at p

-- There are at most as many digits as places.
pub digits-length : (k n : ℕ) → length (digits_of k n) ≤ k
unfolding digits_of
digits-length zero n = omega arith
digits-length (suc k) n = go (ltb n 10) (digits-length k (n / 10))
  where
    go : (t : Bool) → length (digits_of k (n / 10)) ≤ k
        → length (cond t ((48 + n) ∷ []) (digits_of k (n / 10) ++ ((48 + n % 10) ∷ []))) ≤ suc k
    go true h = omega arith
    go false h = simp length-append (omega arith)

-- The digits in the code's terms: no place, one digit, and the digits before the last.
pub digits-none : (k n : ℕ) (b : List ℕ) → k ≡ 0 → (0 ≡ length (digits_of k n)) × (b ≡ sets b 0 (digits_of k n))
unfolding digits_of
digits-none k n b h = rw h (refl, refl)

pub digits-one : (k n : ℕ) (b : List ℕ) → (k ≡ 0 → ⊥) → n < 10
    → (1 ≡ length (digits_of k n)) × (set b 0 (48 + n) ≡ sets b 0 (digits_of k n))
unfolding digits_of
digits-one zero n b h l = elim (h refl) [ ]
digits-one (suc k) n b h l = simp (lt-ltb _ _ l) (refl, refl)

pub digits_more : (k n r : ℕ) (b e : List ℕ) → (k ≡ 0 → ⊥) → 10 ≤ n
    → (r ≡ length (digits_of (k - 1) (n / 10))) × (e ≡ sets b 0 (digits_of (k - 1) (n / 10)))
    → (r + 1 ≡ length (digits_of k n)) × (set e r (48 + n % 10) ≡ sets b 0 (digits_of k n))
unfolding digits_of
digits_more zero n r b e h l p = elim (h refl) [ ]
digits_more (suc k) n r b e h l p =
    let q : suc k - 1 ≡ k = omega arith in
    let p₀ : r ≡ length (digits_of k (n / 10)) = rw q at p.0 in
    let p₁ : e ≡ sets b 0 (digits_of k (n / 10)) = rw q at p.1 in (
      simp (le-ltb _ _ l, length-append) (omega arith),
      simp (le-ltb _ _ l, sets-append, zero-add) (rw (p₁, p₀) refl),
    )

-- The ways to a number.
pub number-empty : (t : List ℕ) (most : ℕ) → length t ≡ 0 → None ≡ number_of t most
unfolding number_of
number-empty t most h = simp (eq-eqb _ _ h)

pub number-zero : (t : List ℕ) (most : ℕ) → get_or t 0 0 ≡ 48 → length t ≡ 1 → Some 0 ≡ number_of t most
unfolding number_of
number-zero t most z h =
    let n : length t ≡ 0 → ⊥ = (λ e. omega arith) in simp (ne_eqb _ _ n, eq-eqb _ _ z, eq-eqb _ _ h)

pub number_front : (t : List ℕ) (most : ℕ) → (length t ≡ 0 → ⊥) → get_or t 0 0 ≡ 48 → (length t ≡ 1 → ⊥) → None ≡ number_of t most
unfolding number_of
number_front t most n z h = simp (ne_eqb _ _ n, eq-eqb _ _ z, ne_eqb _ _ h)

pub number-whole : (t : List ℕ) (most : ℕ) (r : Option ℕ) → (length t ≡ 0 → ⊥) → (get_or t 0 0 ≡ 48 → ⊥) → r ≡ digits_from most 0 t → r ≡ number_of t most
unfolding number_of
number-whole t most r n z e = simp (ne_eqb _ _ n, ne_eqb _ _ z) e
