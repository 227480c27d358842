-- Laws of optional elements: of one step from element to element, and of the search among them.
use Prim.Native.Nat.{ℕ, zero, suc, ◌+◌, ◌-◌, ◌≤◌, ◌<◌}
use mathlib.Core.Path.{◌≡◌, refl, sym, ap, subst, ◌∙◌}
use mathlib.Core.List.{List}
use mathlib.Core.Bool.{Bool, true, false, cond, ◌&&◌, and-false}
use native.Mathlib.Omega.{arith}
use lib.ListN.{length, get_or}
use lib.Dec.{leb}
use borrow.Author.Tests.{le-leb, lt-leb, leb-true, leb-false}
use Rattle.octets.proofs.Choice.{at_cond, never}
use Rattle.std.specs.Prelude.{Option, Some, None, option_and_then}
use Rattle.element.specs.Elements.{within, next_element, element_among, element_from}

-- The test of a range, its three ways.
module _ (x low high : ℕ) where
  pub within-inside : low ≤ x → x ≤ high → within x low high ≡ true
  unfolding within
  within-inside h k = simp (le-leb _ _ h, le-leb _ _ k)

  pub within_under : x < low → within x low high ≡ false
  unfolding within
  within_under h = simp (lt-leb _ _ h)

  pub within_over : high < x → within x low high ≡ false
  unfolding within
  within_over h = simp (lt-leb _ _ h, and-false)

  pub within_says : within x low high ≡ true → (low ≤ x) × (x ≤ high)
  unfolding within
  within_says e = go (leb low x) (leb x high) refl refl e
    where
      go : (a b : Bool) → leb low x ≡ a → leb x high ≡ b → a && b ≡ true → (low ≤ x) × (x ≤ high)
      go true true p q r = (leb-true _ _ p, leb-true _ _ q)
      go true false p q r = never r
      go false b p q r = never r

-- The next element lies further on.
abbrev Further : ℕ → Option ℕ → Type 0
Further i None = Unit {0}
Further i (Some j) = i < j

further : (s : List ℕ) (i : ℕ) → Further i (next_element s i)
unfolding next_element
further s i =
    at_cond (Further i) (leb 128 (get_or s i 0)) (Some (i + 1)) _ (λ e. omega arith) λ e.
    at_cond (Further i) (leb (i + 2 + get_or s (i + 1) 0) (length s)) (Some (i + 2 + get_or s (i + 1) 0)) None (λ e. omega arith) (λ e. tt)

pub next-further : (s : List ℕ) (i j : ℕ) → next_element s i ≡ Some j → i < j
next-further s i j e = subst (Further i) e (further s i)

pub next_falls : (s : List ℕ) (i j : ℕ) → i < length s → next_element s i ≡ Some j → length s - j < length s - i
next_falls s i j h e = let f : i < j = next-further s i j e in omega arith

module _ (s : List ℕ) (low high i : ℕ) where
  -- Past the end nothing is found.
  pub seek_end : (k : ℕ) → length s ≤ i → element_among k s i low high ≡ None
  unfolding element_among
  seek_end zero h = refl
  seek_end (suc k) h = simp (le-leb _ _ h)

  -- What is meant is found where it stands.
  pub seek_here : (k : ℕ) → i < length s → length s ≤ i + k → within (get_or s i 0) low high ≡ true
      → element_among k s i low high ≡ Some (i, get_or s i 0)
  unfolding element_among
  seek_here zero h b w = let z : ⊥ = omega arith in elim z [ ]
  seek_here (suc k) h b w = simp (lt-leb _ _ h, w)

  -- An element that runs past the end is the last.
  pub seek_cut : (k : ℕ) → i < length s → within (get_or s i 0) low high ≡ false → next_element s i ≡ None
      → element_among k s i low high ≡ None
  unfolding element_among
  seek_cut zero h w n = refl
  seek_cut (suc k) h w n = simp (lt-leb _ _ h, w, n)

  -- What the loop keeps: enough elements are allowed, and the answer from here is the whole answer.
  pub record Seeks (r : Option (ℕ × ℕ)) : Type 0 where
    pub most : ℕ
    pub enough : length s ≤ i + most
    pub same : element_among most s i low high ≡ r

-- An element that is not meant is passed over.
pub seek_on : (s : List ℕ) (low high i j : ℕ) (r : Option (ℕ × ℕ)) → i < length s → within (get_or s i 0) low high ≡ false
    → next_element s i ≡ Some j → Seeks s low high i r → Seeks s low high j r
unfolding element_among
seek_on s low high i j r h w n p = go p.most p.enough p.same
  where
    go : (k : ℕ) → length s ≤ i + k → element_among k s i low high ≡ r → Seeks s low high j r
    go zero b e = let z : ⊥ = omega arith in elim z [ ]
    go (suc k) b e =
        let f : i < j = next-further s i j n in
        record { most = k; enough = omega arith; same = simp (lt-leb _ _ h, w, n) at e }

pub seeks : (s : List ℕ) (low high at : ℕ) → Seeks s low high at (element_from s at low high)
unfolding element_from
seeks s low high at = record { most = length s; enough = omega arith; same = refl }

-- Any number of elements that is enough gives the same answer.
among_same : (k l : ℕ) (s : List ℕ) (low high i : ℕ) → length s ≤ i + k → length s ≤ i + l
    → element_among k s i low high ≡ element_among l s i low high
unfolding element_among
among_same zero l s low high i h g = sym (seek_end s low high i l (omega arith))
among_same (suc k) zero s low high i h g = seek_end s low high i (suc k) (omega arith)
among_same (suc k) (suc l) s low high i h g =
    ap (λ (f : Option (ℕ × ℕ)). cond (leb (length s) i) None (cond (within (get_or s i 0) low high) (Some (i, get_or s i 0)) f))
    (on (next_element s i) refl (λ j a b. among_same k l s low high j a b))
  where
    on : (n : Option ℕ) → next_element s i ≡ n
        → ((j : ℕ) → length s ≤ j + k → length s ≤ j + l → element_among k s j low high ≡ element_among l s j low high)
        → option_and_then (λ j. element_among k s j low high) n ≡ option_and_then (λ j. element_among l s j low high) n
    on None e ih = refl
    on (Some j) e ih = let f : i < j = next-further s i j e in ih j (omega arith) (omega arith)

-- The search from a place: past the end, at an element that is meant, and at one that is not.
module _ (s : List ℕ) (low high i : ℕ) where
  pub from_end : length s ≤ i → element_from s i low high ≡ None
  unfolding element_from
  from_end h = seek_end s low high i (length s) h

  pub from_here : i < length s → within (get_or s i 0) low high ≡ true → element_from s i low high ≡ Some (i, get_or s i 0)
  unfolding element_from
  from_here h w = seek_here s low high i (length s) h (omega arith) w

  pub from_next : (j : ℕ) → i < length s → within (get_or s i 0) low high ≡ false → next_element s i ≡ Some j
      → element_from s i low high ≡ element_from s j low high
  unfolding element_from
  from_next j h w n =
      let p : Seeks s low high j (element_from s i low high) = seek_on s low high i j _ h w n (seeks s low high i) in
      let q : length s ≤ j + p.most = p.enough in
      sym p.same ∙ among_same p.most (length s) s low high j q (omega arith)

  -- An element of one octet.
  pub from_octet : i < length s → within (get_or s i 0) low high ≡ false → 128 ≤ get_or s i 0
      → element_from s i low high ≡ element_from s (i + 1) low high
  unfolding next_element
  from_octet h w k = from_next (i + 1) h w one
    where
      one : next_element s i ≡ Some (i + 1)
      one = simp (le-leb _ _ k)

-- What is found stands from `at` on, below the end, and is what was looked for.
pub record Stands (s : List ℕ) (at low high p x : ℕ) : Type 0 where
  pub from : at ≤ p
  pub below : p < length s
  pub octet : x ≡ get_or s p 0
  pub meant : within x low high ≡ true

abbrev pub Told : List ℕ → ℕ → ℕ → ℕ → Option (ℕ × ℕ) → Type 0
Told s at low high None = Unit {0}
Told s at low high (Some (p, x)) = Stands s at low high p x

later : (s : List ℕ) (i j low high : ℕ) (f : Option (ℕ × ℕ)) → i < j → Told s j low high f → Told s i low high f
later s i j low high None h t = tt
later s i j low high (Some (p, x)) h t =
    let k : j ≤ p = t.from in record { from = omega arith; below = t.below; octet = t.octet; meant = t.meant }

told : (k : ℕ) (s : List ℕ) (at low high : ℕ) → Told s at low high (element_among k s at low high)
unfolding element_among
told zero s at low high = tt
told (suc k) s at low high =
    at_cond (Told s at low high) (leb (length s) at) _ _ (λ e. tt) λ e.
    at_cond (Told s at low high) (within (get_or s at 0) low high) _ _
    (λ w. record { from = omega arith; below = leb-false _ _ e; octet = refl; meant = w })
    (λ w. on (next_element s at) refl (λ j. told k s j low high))
  where
    on : (n : Option ℕ) → next_element s at ≡ n → ((j : ℕ) → Told s j low high (element_among k s j low high))
        → Told s at low high (option_and_then (λ j. element_among k s j low high) n)
    on None e ih = tt
    on (Some j) e ih = later s at j low high (element_among k s j low high) (next-further s at j e) (ih j)

pub seek_told : (s : List ℕ) (at low high : ℕ) → Told s at low high (element_from s at low high)
unfolding element_from
seek_told s at low high = told (length s) s at low high
