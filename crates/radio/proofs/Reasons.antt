-- The reason that a step gives: of a message received the first whose condition holds, of any other event none.
use Prim.Native.Nat.{ℕ}
use mathlib.Core.Path.{◌≡◌, refl, sym, ap, ◌∙◌}
use mathlib.Core.List.{List, ◌∷◌, ◌++◌}
use mathlib.Core.Bool.{Bool, true}
use lib.ListN.{length}
use borrow.Author.Tests.{eq-eqb, ne_eqb}
use Rattle.version.specs.declared.Table.{Table}
use Rattle.version.specs.Version.{greatest_actions}
use Rattle.context.specs.declared.Context.{Context}
use Rattle.fitness.specs.Tables.{fitness_of}
use Rattle.transitions.specs.declared.Decision.{Decision}
use Rattle.transitions.specs.declared.Decision.TheVariants.{Take, NoStep, Ignore, Report, TellStatus, SetParameters}
use Rattle.transitions.specs.Table.{step_table}
use Rattle.transitions.proofs.Sound.{rows_sound}
use Rattle.transitions.proofs.Decided.{Plain, event-plain}
use Rattle.call.specs.declared.Reason.{Reason}
use Rattle.call.specs.declared.Seen.{Seen}
use Rattle.call.specs.Due.{settled_by, settled}
use Rattle.call.specs.Events.{seen_of}
use Rattle.call.specs.Step.{no_step, carried_out, step_by}
use Rattle.call.specs.Reasons.{reason_number}
use Rattle.message.specs.declared.Own.{Own}
use Rattle.received.specs.Ignored.{holds_of, in_order, first_in}
use Rattle.received.proofs.Ignored.{NoneHolds, given, only, reason-first}
use Rattle.radio.specs.declared.Happened.{Happened}
use Rattle.std.specs.Prelude.{Option, Some, None}
use Rattle.call.specs.declared.Event.{Event}
use Rattle.radio.specs.Step.{event_of, told_due, due_to, reacted_to, refusal_of, step_of}
use Rattle.radio.proofs.Numbers.{NoMessage, no_message}
use Rattle.radio.proofs.Reacting.{of_step}

module _ (table : Table) where
  -- ---- an event that is no message

  plain-reason : (x : Context) (d : Decision) (e : Seen) → Plain d → (carried_out (fitness_of table) x d e).reason ≡ 0
  unfolding carried_out no_step
  plain-reason x (Take d) e p = refl
  plain-reason x NoStep e p = refl
  plain-reason x Ignore e p = absurd p
  plain-reason x (Report cause) e p = absurd p
  plain-reason x TellStatus e p = absurd p
  plain-reason x SetParameters e p = absurd p

  told-reason : (x : Context) (t : Option Event) → NoMessage t → (settled table x (told_due t)).reason ≡ 0
  unfolding settled_by told_due step_by no_step
  told-reason x (Some event) h = plain-reason x _ (seen_of event) (event-plain (fitness_of table) (greatest_actions table) (step_table table) (rows_sound table) x (seen_of event).number (seen_of event).code h)
  told-reason x None h = refl

  pub event-reason : (own : Own) (identity : List ℕ) (room : ℕ) (x : Context) (h : Happened) (s : List ℕ) → (h.number ≡ 18 → ⊥) → (step_of table own identity room x h s).reason ≡ 0
  unfolding reacted_to due_to
  event-reason own identity room x h s other =
      of_step table own identity room x h s (λ r. r.reason ≡ 0) refl
      (λ o. rw (ne_eqb h.number 18 other) (told-reason x (event_of h.number h.value h.reference) (no_message h.number h.value h.reference)))

  -- ---- a message

  module _ (own : Own) (identity : List ℕ) (room : ℕ) (x : Context) (h : Happened) (s : List ℕ) (free : refusal_of table x own.key (length identity) h (length s) room ≡ 0)
      (message : h.number ≡ 18) where
    abbrev holds : Reason → Bool
    holds = holds_of table identity x h.mode s

    pub step-reason : (step_of table own identity room x h s).reason ≡ first_in holds in_order
    unfolding step_of reacted_to due_to
    step-reason = rw (free, eq-eqb h.number 18 message) (reason-first table x identity h.mode s)

    -- A reason whose condition holds, and that of none before it, is given,
    pub holding_given : (before after : List Reason) (reason : Reason) → before ++ (reason ∷ after) ≡ in_order → NoneHolds holds before → holds reason ≡ true
        → (step_of table own identity room x h s).reason ≡ reason_number reason
    holding_given before after reason order none e =
        step-reason ∙ ap (first_in holds) (sym order) ∙ given holds before after reason none e

    -- and one that is given, its condition holds.
    pub given_holds : (reason : Reason) → (step_of table own identity room x h s).reason ≡ reason_number reason → holds reason ≡ true
    given_holds reason e = only holds in_order reason (sym step-reason ∙ e)
