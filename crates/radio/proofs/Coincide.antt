-- Any two outcomes that a public contract of this crate allows coincide: the result, and each octet of the lent reply buffer.
use Prim.Native.Nat.{ℕ}
use mathlib.Core.Path.{◌≡◌}
use mathlib.Core.List.{List}
use lib.ListN.{length}
use lib.Seq.{sets}
use Rattle.octets.proofs.Coincide.{coincide}
use Rattle.version.specs.declared.Table.{Table}
use Rattle.version.specs.Version.{newest}
use Rattle.context.specs.declared.Context.{Context}
use Rattle.message.specs.declared.Own.{Own}
use Rattle.radio.specs.declared.Happened.{Happened}
use Rattle.radio.specs.declared.Stepped.{Stepped}
use Rattle.radio.specs.Step.{Reaction, step_of, taken_of, shown}

-- A result and a buffer, both told by the reaction that they show.
shown_coincides : (comes : Reaction) (d : List ℕ) (a b : Stepped) (e f : List ℕ)
    → (a ≡ shown comes) × (e ≡ sets d 0 comes.reply) → (b ≡ shown comes) × (f ≡ sets d 0 comes.reply) → (a ≡ b) × (e ≡ f)
shown_coincides comes d a b e f p q = (coincide (shown comes) a b p.0 q.0, coincide (sets d 0 comes.reply) e f p.1 q.1)

module _ (own : Own) (identity d : List ℕ) (x : Context) (h : Happened) (s : List ℕ) where
  module _ (table : Table) where
    abbrev comes : Reaction
    comes = step_of table own identity (length d) x h s

    pub step-by_coincides : (a b : Stepped) (e f : List ℕ) → (a ≡ shown comes) × (e ≡ sets d 0 comes.reply) → (b ≡ shown comes) × (f ≡ sets d 0 comes.reply)
        → (a ≡ b) × (e ≡ f)
    step-by_coincides = shown_coincides comes d

    abbrev taken : Reaction
    taken = taken_of table own identity (length d) x h s

    pub take_coincides : (a b : Stepped) (e f : List ℕ) → (a ≡ shown taken) × (e ≡ sets d 0 taken.reply) → (b ≡ shown taken) × (f ≡ sets d 0 taken.reply)
        → (a ≡ b) × (e ≡ f)
    take_coincides = shown_coincides taken d

  abbrev steps : Reaction
  steps = step_of newest own identity (length d) x h s

  pub step_coincides : (a b : Stepped) (e f : List ℕ) → (a ≡ shown steps) × (e ≡ sets d 0 steps.reply) → (b ≡ shown steps) × (f ≡ sets d 0 steps.reply)
      → (a ≡ b) × (e ≡ f)
  step_coincides = shown_coincides steps d
