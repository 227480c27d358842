-- Laws of the reader's definitions, in the terms of its code.
use Prim.Native.Nat.{ℕ, ◌+◌, ◌/◌, ◌%◌, ◌≤◌, ◌<◌}
use mathlib.Core.Path.{◌≡◌, ap, subst, ◌∙◌}
use mathlib.Core.List.{List}
use native.Mathlib.Omega.{arith}
use lib.ListN.{length, get_or}
use lib.Dec.{leb}
use borrow.Author.Tests.{le-leb, lt-leb, le-ltb, eq-eqb}
use Rattle.codes.specs.declared.protocol.Protocol.{Protocol}
use Rattle.codes.specs.Protocol.{discriminator}
use Rattle.octets.specs.declared.Run.{Run}
use Rattle.std.specs.Prelude.{Option, Result, Ok, Err, IsErrAnd, MatchResult}
use Rattle.element.specs.declared.Miscount.{Miscount}
use Rattle.message.specs.declared.Fault.{Fault}
use Rattle.element.specs.Elements.{element_from}
use Rattle.element.specs.Counted.{counted_at}
use Rattle.element.proofs.Elements.{within_says}
use Rattle.element.proofs.Counting.{Lies, counted-told, Told}
use Rattle.octets.specs.declared.Reference.{Reference}
use Rattle.message.specs.declared.Classmark.{Classmark}
use Rattle.message.specs.declared.Message.{Message}
use Rattle.message.specs.declared.Message.TheVariants.{ImmediateSetup, Status}
use Rattle.message.specs.declared.Fault.TheVariants.{CutShort}
use Rattle.message.specs.Reading.{
  reference_at,
  classmark_at,
  behind,
  unless_known,
  whole_of,
  miscounted,
  counted_of,
  on_counted,
  immediate_reference_of,
  immediate_identity_of,
  half_at,
  status_behind,
  status_of,
  read_as,
  body_of,
  read_message,
}

-- A mandatory part that is cut short, and one that is not.
pub whole-cut : (s : List ℕ) (end : ℕ) (message : Message) → length s < end → Err CutShort ≡ whole_of s end message
unfolding whole_of
whole-cut s end message h = simp (lt-leb _ _ h)

pub whole-there : (s : List ℕ) (end : ℕ) (message : Message) (found : Option (ℕ × ℕ)) → end ≤ length s → found ≡ element_from s end 0 15
    → unless_known message found ≡ whole_of s end message
unfolding whole_of
whole-there s end message found h e = simp (le-leb _ _ h) (ap (unless_known message) e)

-- The exit of a `?` passes the error on.
pub passed : {T E : Type 0} (r : Result T E) (e : E) → IsErrAnd r (λ y. y ≡ e) → r ≡ Err e
passed (Ok x) e p = elim p [ ]
passed (Err y) e p = ap Err p

-- What is counted, with the fault in the place of the miscount.
pub mapped : (at : ℕ) (c : Result Run Miscount) (r : Result Run Fault)
    → MatchResult c (λ run. r ≡ Ok run) (λ miscount. IsErrAnd r (λ fault. fault ≡ miscounted at miscount)) → r ≡ on_counted at Ok c
mapped at (Ok run) r h = h
mapped at (Err miscount) r h = passed r (miscounted at miscount) h

module _ (s : List ℕ) (at low high : ℕ) where
  -- What was counted lies within the octets.
  pub counted-lies : (run : Run) → Ok run ≡ counted_of s at low high → Lies s at low high run
  unfolding counted_of
  counted-lies run e = go (counted_at s at low high) (counted-told s at low high) e
    where
      go : (c : Result Run Miscount) → Told s at low high c → Ok run ≡ on_counted at Ok c → Lies s at low high run
      go (Ok r) t e = let f : r ≡ run = cc in subst (Lies s at low high) f t
      go (Err miscount) t e = cc

  -- The run that a length octet counts decides what stands behind it, and a wrong count what is wrong.
  pub counted-run : (go : Run → Result Message Fault) (run : Run) → Ok run ≡ counted_of s at low high
      → go run ≡ on_counted at go (counted_at s at low high)
  unfolding counted_of
  counted-run go run e = on (counted_at s at low high) e
    where
      on : (c : Result Run Miscount) → Ok run ≡ on_counted at Ok c → go run ≡ on_counted at go c
      on (Ok r) e = let f : run ≡ r = cc in ap go f
      on (Err miscount) e = cc

  pub counted-fault : (go : Run → Result Message Fault) (fault : Fault) → Err fault ≡ counted_of s at low high
      → Err fault ≡ on_counted at go (counted_at s at low high)
  unfolding counted_of
  counted-fault go fault e = on (counted_at s at low high) e
    where
      on : (c : Result Run Miscount) → Err fault ≡ on_counted at Ok c → Err fault ≡ on_counted at go c
      on (Ok r) e = cc
      on (Err miscount) e = cc

-- Where the classmark's length octet counts three, they are there.
pub classmark-there : (s : List ℕ) (run : Run) → Ok run ≡ counted_of s 3 3 3 → 7 ≤ length s
classmark-there s run e =
    let l : Lies s 3 3 3 run = counted-lies s 3 3 3 run e in
    let a : run.start ≡ 3 + 1 = l.start in
    let b : 3 ≤ run.count = (within_says run.count 3 3 l.within).0 in
    let c : run.start + run.count ≤ length s = l.fits in
    omega arith

module _ (s : List ℕ) where
  pub immediate-cut : (run : Run) → Ok run ≡ counted_of s 7 1 8 → length s < behind run + 4 → Err CutShort ≡ immediate_identity_of s
  unfolding immediate_identity_of
  immediate-cut run e h = whole-cut s (behind run + 4) _ h ∙ counted-run s 7 1 8 (immediate_reference_of s) run e

  pub immediate-done : (run : Run) → Ok run ≡ counted_of s 7 1 8 → (c : Classmark) (x : Reference) (r : Result Message Fault)
      → c ≡ classmark_at s 4 → x ≡ reference_at s (behind run)
      → r ≡ whole_of s (behind run + 4) (ImmediateSetup (get_or s 2 0 / 16 % 8) c run x) → r ≡ immediate_identity_of s
  unfolding immediate_identity_of
  immediate-done run e c x r p q w =
      w
      ∙ ap (λ (y : Classmark). whole_of s (behind run + 4) (ImmediateSetup (get_or s 2 0 / 16 % 8) y run x)) p
      ∙ ap (λ (y : Reference). whole_of s (behind run + 4) (ImmediateSetup (get_or s 2 0 / 16 % 8) (classmark_at s 4) run y)) q
      ∙ counted-run s 7 1 8 (immediate_reference_of s) run e

  pub status-done : (run : Run) → Ok run ≡ counted_of s 2 1 247 → (x y : Option ℕ) (r : Result Message Fault) → x ≡ half_at s (behind run) 0xA0
      → y ≡ half_at s (behind run) 0xB0 → r ≡ whole_of s (behind run) (Status run x y) → r ≡ status_of s
  unfolding status_of
  status-done run e x y r p q w =
      w
      ∙ ap (λ (z : Option ℕ). whole_of s (behind run) (Status run z y)) p
      ∙ ap (λ (z : Option ℕ). whole_of s (behind run) (Status run (half_at s (behind run) 0xA0) z)) q
      ∙ counted-run s 2 1 247 (status_behind s) run e

-- Behind a good first octet and type the body decides.
pub head_good : (protocol : Protocol) (s : List ℕ) (b : Result Message Fault) → length s ≤ 251 → 2 ≤ length s → get_or s 0 0 % 16 ≡ discriminator protocol → get_or s 1 0 < 128
    → b ≡ body_of protocol s (get_or s 1 0 % 64) → read_as (leb 128 (get_or s 0 0)) (get_or s 0 0 / 16 % 8) b ≡ read_message protocol s
unfolding read_message
head_good protocol s b h k d t e =
    simp (le-ltb _ _ h, le-ltb _ _ k, eq-eqb _ _ d, lt-leb _ _ t) (ap (read_as (leb 128 (get_or s 0 0)) (get_or s 0 0 / 16 % 8)) e)
