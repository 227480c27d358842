-- Any two outcomes that a public contract of this crate allows coincide: the context afterwards, the result, and each octet of the lent reply buffer.
use Prim.Native.Nat.{ℕ}
use mathlib.Core.Path.{◌≡◌}
use mathlib.Core.List.{List}
use lib.ListN.{length}
use lib.Seq.{sets}
use Rattle.octets.proofs.Coincide.{coincide}
use Rattle.context.specs.declared.Context.{Context}
use Rattle.message.specs.declared.Own.{Own}
use Rattle.radio.specs.declared.Happened.{Happened}
use Rattle.radio.specs.declared.Outcome.{Outcome}
use Rattle.version.specs.Version.{newest}
use Rattle.radio.specs.Step.{Reaction, step_of, shown}

module _ (own : Own) (identity d : List ℕ) (x : Context) (h : Happened) (s : List ℕ) where
  abbrev comes : Reaction
  comes = step_of newest own identity (length d) x h s

  pub step_coincides : (y z : Context) (a b : Outcome) (e f : List ℕ)
      → (y ≡ (shown comes).context) × (a ≡ (shown comes).outcome) × (e ≡ sets d 0 comes.reply)
      → (z ≡ (shown comes).context) × (b ≡ (shown comes).outcome) × (f ≡ sets d 0 comes.reply)
      → (y ≡ z) × (a ≡ b) × (e ≡ f)
  step_coincides y z a b e f p q =
      (coincide (shown comes).context y z p.0 q.0, coincide (shown comes).outcome a b p.1 q.1, coincide (sets d 0 comes.reply) e f p.2 q.2)
