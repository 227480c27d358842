-- What an event does not carry has no effect on its step.
use Prim.Native.Nat.{ℕ}
use mathlib.Core.Path.{◌≡◌, refl, sym}
use mathlib.Core.Bool.{Bool, true, false, ◌||◌}
use mathlib.Core.List.{List, []}
use lib.Dec.{eqb}
use borrow.Author.Tests.{eqb-true}
use Rattle.octets.proofs.Choice.{never}
use Rattle.octets.specs.declared.Reference.{Reference}
use Rattle.version.specs.declared.Table.{Table}
use Rattle.context.specs.declared.Context.{Context}
use Rattle.transitions.specs.declared.Decision.{Decision}
use Rattle.transitions.specs.declared.Decision.TheVariants.{Take, NoStep, Ignore, Report, TellStatus, SetParameters}
use Rattle.fitness.specs.Tables.{fitness_of}
use Rattle.transitions.specs.Table.{step_table}
use Rattle.transitions.proofs.Sound.{rows_sound}
use Rattle.transitions.proofs.Decided.{Plain, event-plain as by_rows}
use Rattle.call.specs.declared.Seen.{Seen}
use Rattle.call.specs.Due.{settled_by, settled}
use Rattle.call.specs.Events.{seen_of}
use Rattle.call.specs.Step.{no_step, carried_out, step_by}
use Rattle.version.specs.Version.{greatest_actions, protocol_of}
use Rattle.message.specs.declared.Own.{Own}
use Rattle.reply.proofs.Fits.{OfARow, row-reply}
use Rattle.step_arguments.specs.Arguments.{out_of_range, argument_refusal}
use Rattle.std.specs.Prelude.{Option, Some, None}
use Rattle.call.specs.declared.Event.{Event}
use Rattle.radio.specs.Step.{event_of, told_due, due_to, reacted_to, refusal_of, reacted, step_of}
use Rattle.radio.proofs.Numbers.{NoMessage, no_message}
use Rattle.log_data.specs.Reading.{carries_call, no_reference}
use Rattle.verdict.specs.Table.{GivenEvent, stepped}
use Rattle.verdict.specs.Entries.{carried_by}

-- ---- only the answer to a message copies it

carried-plain : (table : Table) (x : Context) (d : Decision) (e : Seen) → Plain d → OfARow (carried_out (fitness_of table) x d e).sends
unfolding carried_out no_step
carried-plain table x (Take d) e p = tt
carried-plain table x NoStep e p = tt
carried-plain table x Ignore e p = absurd p
carried-plain table x (Report cause) e p = absurd p
carried-plain table x TellStatus e p = absurd p
carried-plain table x SetParameters e p = absurd p

event-plain : (table : Table) (x : Context) (t : Option Event) → NoMessage t → OfARow (settled table x (told_due t)).sends
unfolding settled_by told_due step_by no_step
event-plain table x (Some event) h = carried-plain table x _ (seen_of event) (by_rows (fitness_of table) (greatest_actions table) (step_table table) (rows_sound table) x (seen_of event).number (seen_of event).code h)
event-plain table x None h = tt

-- ---- the step

either : (a b : Bool) → (a || b) ≡ false → (a ≡ false) × (b ≡ false)
either true b e = never (sym e)
either false b e = (refl, e)

call_not_received : (n : ℕ) → carries_call n ≡ true → eqb n 18 ≡ false
unfolding carries_call
call_not_received n c = go (eqb n 18) refl
  where
    go : (b : Bool) → eqb n 18 ≡ b → b ≡ false
    go true e = let q : n ≡ 18 = eqb-true n 18 e in never (rw q at c)
    go false e = refl

module _ (table : Table) (own : Own) (identity : List ℕ) (x : Context) (e : GivenEvent) where
  abbrev number : ℕ
  number = e.happened.number

  -- Without a message, the octets do not matter.
  no_octets : (t : Option Event) → NoMessage t → (s u : List ℕ) → reacted (protocol_of table) own identity s (settled table x (told_due t)) ≡ reacted (protocol_of table) own identity u (settled table x (told_due t))
  no_octets t h s u = rw (row-reply (protocol_of table) own identity s u (settled table x (told_due t)).context (settled table x (told_due t)).sends (settled table x (told_due t)).sent (event-plain table x t h))

  -- Without a call, the value and the reference do not matter.
  no_call_lem : carries_call number ≡ false → (v w : ℕ) (r q : Reference) → event_of number v r ≡ event_of number w q
  unfolding event_of carries_call
  no_call_lem c v w r q =
      let a = either (eqb number 1) _ c in
      let b = either (eqb number 2) _ a.1 in
      rw (a.0, b.0, b.1)

  pub only_carried : stepped table own identity x (carried_by e) ≡ stepped table own identity x e
  unfolding step_of refusal_of argument_refusal out_of_range reacted_to due_to carried_by carries_call
  only_carried = by_call (carries_call number) refl
    where
      by_number : carries_call number ≡ false → (m : Bool) → eqb number 18 ≡ m → stepped table own identity x (carried_by e) ≡ stepped table own identity x e
      by_number c true m = rw (c, m)
      by_number c false m =
          rw (
            c,
            m,
            no_call_lem c e.happened.value 0 e.happened.reference no_reference,
            no_octets (event_of number 0 no_reference) (no_message _ _ _) e.octets [],
          )

      by_call : (c : Bool) → carries_call number ≡ c → stepped table own identity x (carried_by e) ≡ stepped table own identity x e
      by_call true c =
          rw (
            c,
            call_not_received number c,
            no_octets (event_of number e.happened.value e.happened.reference) (no_message _ _ _) e.octets [],
          )
      by_call false c = by_number c (eqb number 18) refl
