-- Laws of a counted value part.
use Prim.Native.Nat.{ℕ, ◌+◌, ◌≤◌, ◌<◌}
use mathlib.Core.Path.{◌≡◌, refl}
use mathlib.Core.List.{List}
use mathlib.Core.Bool.{true, false}
use lib.ListN.{length, get_or}
use lib.Dec.{leb}
use borrow.Author.Tests.{le-leb, lt-leb, leb-true}
use Rattle.octets.proofs.Choice.{at_cond}
use Rattle.octets.specs.declared.Run.{Run}
use Rattle.std.specs.Prelude.{Result, Ok, Err}
use Rattle.element.specs.declared.Miscount.{Miscount}
use Rattle.element.specs.declared.Miscount.TheVariants.{CutShort, WrongLength}
use Rattle.element.specs.Elements.{within}
use Rattle.element.specs.Counted.{counted_at}

module _ (s : List ℕ) (at low high : ℕ) where
  pub counted_none : length s ≤ at → Err CutShort ≡ counted_at s at low high
  unfolding counted_at
  counted_none h = simp (le-leb _ _ h)

  pub counted-wrong : at < length s → within (get_or s at 0) low high ≡ false → Err WrongLength ≡ counted_at s at low high
  unfolding counted_at
  counted-wrong h w = simp (lt-leb _ _ h, w)

  pub counted-cut : at < length s → within (get_or s at 0) low high ≡ true → length s < at + 1 + get_or s at 0
      → Err CutShort ≡ counted_at s at low high
  unfolding counted_at
  counted-cut h w k = simp (lt-leb _ _ h, w, lt-leb _ _ k)

  pub counted-there : at < length s → within (get_or s at 0) low high ≡ true → at + 1 + get_or s at 0 ≤ length s
      → Ok (record { start = at + 1; count = get_or s at 0 }) ≡ counted_at s at low high
  unfolding counted_at
  counted-there h w k = simp (lt-leb _ _ h, w, le-leb _ _ k)

  -- What is counted lies within the octets, behind its length octet.
  pub record Lies (r : Run) : Type 0 where
    pub start : r.start ≡ at + 1
    pub count : r.count ≡ get_or s at 0
    pub within : within r.count low high ≡ true
    pub fits : r.start + r.count ≤ length s

  abbrev pub Told : Result Run Miscount → Type 0
  Told (Ok r) = Lies r
  Told (Err miscount) = Unit {0}

  pub counted-told : Told (counted_at s at low high)
  unfolding counted_at
  counted-told =
      at_cond Told (leb (length s) at) _ _ (λ e. tt) λ e.
      at_cond Told (within (get_or s at 0) low high) _ _
      (λ w. at_cond Told (leb (at + 1 + get_or s at 0) (length s)) _ _
      (λ f. record { start = refl; count = refl; within = w; fits = leb-true _ _ f }) (λ f. tt))
      (λ w. tt)
