-- What an answer says, of a step by any sound rows: it is 0 to 3; any but 0 keeps the context, has no actions and sends nothing that was pending, and any but 0 and 2
-- sends nothing.
-- Actions are at most the rows' sum. Answer 1 has a reason of 1 to 6 beside it, and every other answer 0.
use Prim.Native.Nat.{ℕ, ◌≤◌}
use mathlib.Core.Path.{◌≡◌, refl}
use mathlib.Core.List.{List}
use mathlib.Core.Bool.{true}
use lib.Dec.{leb}
use native.Mathlib.Omega.{arith}
use borrow.Author.Tests.{leb-true}
use Rattle.octets.proofs.Choice.{at_cond}
use Rattle.codes.specs.Attributes.{parameters_of}
use Rattle.context.specs.declared.Context.{Context}
use Rattle.fitness.specs.Fitness.{Fitness, consistent_by}
use Rattle.version.specs.declared.Table.{Table}
use Rattle.version.specs.Version.{greatest_actions}
use Rattle.fitness.specs.Tables.{fitness_of}
use Rattle.transitions.specs.declared.Decision.{Decision}
use Rattle.transitions.specs.declared.Decision.TheVariants.{Take, NoStep, Ignore, Report, TellStatus, SetParameters}
use Rattle.transitions.specs.Table.{Row, step_table}
use Rattle.transitions.proofs.Sound.{Sound, rows_sound}
use Rattle.transitions.proofs.Decided.{OfTaken, decided_few}
use Rattle.call.specs.declared.Due.{Due}
use Rattle.call.specs.declared.Due.TheVariants.{Steps, Ignored, Reported, Refused}
use Rattle.call.specs.declared.Event.{Event}
use Rattle.call.specs.declared.Reason.{Reason}
use Rattle.call.specs.declared.Seen.{Seen}
use Rattle.call.specs.declared.Sending.{Sending}
use Rattle.call.specs.declared.Sending.TheVariants.{OfRow}
use Rattle.call.specs.declared.Settled.{Settled}
use Rattle.call.specs.Events.{seen_of}
use Rattle.call.specs.Step.{silent, took, ignored, no_step, reported_with, status_told, parameters_set, carried_out, step_by}
use Rattle.call.specs.Talk.{unsent}
use Rattle.call.specs.Due.{settled_by, settled}
use Rattle.call.proofs.Reasons.{numbered}

pub record Right (most : ℕ) (x : Context) (r : Settled) : Type 0 where
  pub numbered : r.answer ≤ 3
  pub kept : (r.answer ≡ 0 → ⊥) → r.context ≡ x
  pub still : (r.answer ≡ 0 → ⊥) → r.actions ≡ 0
  pub silent : (r.answer ≡ 0 → ⊥) → (r.answer ≡ 2 → ⊥) → r.sends ≡ silent
  pub unsent : (r.answer ≡ 0 → ⊥) → r.sent ≡ unsent x
  pub few : r.actions ≤ most
  pub told : r.answer ≡ 1 → (1 ≤ r.reason) × (r.reason ≤ 6)
  pub untold : (r.answer ≡ 1 → ⊥) → r.reason ≡ 0

module _ (fitness : Fitness) (most : ℕ) (x : Context) where
  taken_right : (y : Context) (actions : ℕ) (sends : Sending) → actions ≤ most → Right most x (took y actions sends)
  taken_right y actions sends few = record {
    numbered = omega arith;
    kept = λ n. elim (n refl) [ ];
    still = λ n. elim (n refl) [ ];
    silent = λ n m. elim (n refl) [ ];
    unsent = λ n. elim (n refl) [ ];
    few = few;
    told = λ e. let z : ⊥ = omega (arith, e) in absurd z;
    untold = λ n. refl;
  }

  ignored_right : (reason : Reason) → Right most x (ignored reason x)
  unfolding ignored
  ignored_right reason = record {
    numbered = omega arith;
    kept = λ n. refl;
    still = λ n. refl;
    silent = λ n m. refl;
    unsent = λ n. refl;
    few = omega arith;
    told = λ e. numbered reason;
    untold = λ n. elim (n refl) [ ];
  }

  no_step_right : Right most x (no_step x)
  unfolding no_step
  no_step_right = record {
    numbered = omega arith;
    kept = λ n. refl;
    still = λ n. refl;
    silent = λ n m. refl;
    unsent = λ n. refl;
    few = omega arith;
    told = λ e. let z : ⊥ = omega (arith, e) in absurd z;
    untold = λ n. refl;
  }

  reported_right : (cause : ℕ) → Right most x (reported_with cause x)
  unfolding reported_with
  reported_right cause =
      at_cond (Right most x) x.parameters.comm _ _
      (λ e. record {
        numbered = omega arith;
        kept = λ n. refl;
        still = λ n. refl;
        silent = λ n m. elim (m refl) [ ];
        unsent = λ n. refl;
        few = omega arith;
        told = λ e. let z : ⊥ = omega (arith, e) in absurd z;
        untold = λ n. refl;
      })
      (λ e. ignored_right _)

  carried_right : (d : Decision) (e : Seen) → OfTaken (λ d. leb d.actions most ≡ true) d → Right most x (carried_out fitness x d e)
  unfolding carried_out status_told parameters_set
  carried_right (Take d) e f = taken_right _ d.actions (OfRow d.sends) (leb-true d.actions most f)
  carried_right NoStep e f = no_step_right
  carried_right Ignore e f = ignored_right _
  carried_right (Report cause) e f = reported_right cause
  carried_right TellStatus e f = at_cond (Right most x) x.parameters.comm _ _ (λ q. taken_right x 0 _ (omega arith)) (λ q. ignored_right _)
  carried_right SetParameters e f =
      at_cond (Right most x) (consistent_by fitness x.state (parameters_of e.attributes)) _ _ (λ q. taken_right _ 0 silent (omega arith)) (λ q. reported_right 98)

  right_by : (table : List Row) → Sound fitness most table → (event : Event) → Right most x (step_by fitness table x event)
  unfolding step_by
  right_by table sound event = carried_right _ (seen_of event) (decided_few fitness most table sound x (seen_of event).number (seen_of event).code)

  settled-by : (table : List Row) → Sound fitness most table → (due : Due) → Right most x (settled_by fitness table x due)
  unfolding settled_by
  settled-by table sound (Steps event) = right_by table sound event
  settled-by table sound (Ignored reason) = ignored_right reason
  settled-by table sound (Reported cause) = reported_right cause
  settled-by table sound Refused = no_step_right

-- By a step table.
pub settled_right : (table : Table) (x : Context) (due : Due) → Right (greatest_actions table) x (settled table x due)
settled_right table x = settled-by (fitness_of table) (greatest_actions table) x (step_table table) (rows_sound table)
