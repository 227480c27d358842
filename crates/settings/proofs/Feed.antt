-- The place of the first LF, from what the kit's search for an octet answers.
use Prim.Native.Nat.{ℕ, ◌-◌}
use mathlib.Core.Path.{◌≡◌, refl}
use mathlib.Core.Bool.{Bool, true, false}
use mathlib.Core.List.{List}
use native.Mathlib.Omega.{arith}
use lib.Dec.{eqb}
use lib.ListN.{length, get_or, take, drop, length-drop}
use lib.Seq.{take-length}
use Rattle.std.specs.Prelude.{Some, None}
use Rattle.std.proofs.lemmas.List.Sums.{position_or_len_is}
use Rattle.memchr.specs.Find.{IsFirstByte, is_byte}
use Rattle.settings.specs.Lines.{first_feed}

untrue : (t : Bool) → (t ≡ true → ⊥) → t ≡ false
untrue true h = let z : ⊥ = h refl in elim z [ ]
untrue false h = refl

-- The octets from a place on, as they are cut out of a file.
pub behind : (at : ℕ) (file : List ℕ) → take (length file - at) (drop at file) ≡ drop at file
behind at file = rw (← length-drop at file) (take-length (drop at file))

module _ (v w : List ℕ) (e : v ≡ w) where
  pub feed_found : (place : ℕ) → IsFirstByte (is_byte 10) v (Some place) → first_feed w ≡ place
  feed_found place f =
      rw (← e)
      (position_or_len_is (λ b. eqb b 10) v place 0 (omega (arith, f.0.high))
      (λ k h. untrue (eqb (get_or v k 0) 10) (f.0.before k (omega arith) h))
      (λ h. f.1))

  pub no_feed : IsFirstByte (is_byte 10) v None → first_feed w ≡ length w
  no_feed f =
      rw (← e)
      (position_or_len_is (λ b. eqb b 10) v (length v) 0 (omega arith)
      (λ k h. untrue (eqb (get_or v k 0) 10) (f k (omega arith) h))
      (λ h. let z : ⊥ = omega arith in elim z [ ]))
