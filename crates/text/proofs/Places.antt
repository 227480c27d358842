-- The first place of a list that passes a test, or the list's length: what `position(..).unwrap_or(len)` answers.
use Rattle.std.proofs.Common.{◌≡◌, ℕ, suc, ◌+◌, ◌≤◌, Bool, true, false, cond, not, ◌&&◌, List, [], ◌∷◌, length, Some, None, refl, sym, eqb, ltb, arith, one-add}
use Rattle.std.specs.List.{position, position_or_len}
use Rattle.std.specs.Option.{unwrap_or}
use Rattle.std.proofs.lemmas.List.Sums.{prefix_len-le-length}
use Rattle.std.proofs.lemmas.List.Recursion.{is_position_or_len}
use Rattle.std.proofs.lemmas.Bool.{lt-ltb, le-ltb}
use Rattle.text.specs.Words.{place_of, same_text}
use Rattle.text.specs.Hex.{is_digit, digits_before}
use Rattle.std.specs.Cmp.Lexicographic.{pointwise}

bounded : (n m : ℕ) → n ≤ m → unwrap_or (cond (ltb n m) (Some n) None) m ≡ n
bounded n m h = go (ltb n m) refl
  where
    go : (t : Bool) → ltb n m ≡ t → unwrap_or (cond t (Some n) None) m ≡ n
    go true e = refl
    go false e = omega (arith, Rattle.std.proofs.lemmas.Bool.ltb-false _ _ e)

pub position_else : (p : ℕ → Bool) (xs : List ℕ) → unwrap_or (position p xs) (length xs) ≡ position_or_len p xs
position_else p xs = bounded _ _ (prefix_len-le-length (λ x. not (p x)) xs)

pub place-position : (b : ℕ) (xs : List ℕ) → place_of b xs ≡ position_or_len (λ x. eqb x b) xs
unfolding place_of
place-position b = is_position_or_len (place_of b) (λ x. eqb x b) refl (λ x xs. rw one-add)

pub digits-position : (either : Bool) (xs : List ℕ) → digits_before either xs ≡ position_or_len (λ x. not (is_digit either x)) xs
unfolding digits_before
digits-position either = is_position_or_len (digits_before either) (λ x. not (is_digit either x)) refl (λ x xs. go (is_digit either x) (digits_before either xs))
  where
    go : (t : Bool) (n : ℕ) → cond t (suc n) 0 ≡ cond (not t) 0 (1 + n)
    go true n = sym (one-add n)
    go false n = refl

pub same-pointwise : (a b : List ℕ) → pointwise eqb a b ≡ same_text a b
unfolding same_text
same-pointwise [] [] = refl
same-pointwise [] (y ∷ ys) = refl
same-pointwise (x ∷ xs) [] = refl
same-pointwise (x ∷ xs) (y ∷ ys) = go (eqb x y) (same-pointwise xs ys)
  where
    go : (t : Bool) → pointwise eqb xs ys ≡ same_text xs ys → (t && pointwise eqb xs ys) ≡ cond t (same_text xs ys) false
    go true e = e
    go false e = refl
