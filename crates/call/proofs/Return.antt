-- A rejected termination leads back, in so many words: by the second table, the third and that of a group call its row is taken. In a broadcast call it leads to the state that it was asked from, with its start row and action 1, no timer running, the call's value and
-- reference as they were, and nothing remembered.
use Prim.Native.Nat.{ℕ}
use mathlib.Core.Path.{◌≡◌, refl, sym, ap, ◌∙◌}
use mathlib.Core.Bool.{Bool, true, false, not, ◌&&◌}
use borrow.Author.Tests.{not-true}
use Rattle.octets.proofs.Choice.{never}
use Rattle.std.specs.Prelude.{Some, None}
use Rattle.codes.specs.declared.state.State.{State}
use Rattle.octets.specs.declared.Run.{Run}
use Rattle.message.specs.declared.Message.TheVariants.{TerminationReject}
use Rattle.timer.specs.Timers.{no_timers, with_timer}
use Rattle.version.specs.declared.Table.{Table}
use Rattle.version.specs.declared.Table.TheVariants.{First, Second, Third, Group}
use Rattle.version.specs.Version.{protocol_of}
use Rattle.codes.specs.declared.protocol.Protocol.TheVariants.{Broadcast}
use Rattle.codes.specs.MessageTypes.{TERMINATION-REJECT}
use Rattle.context.specs.declared.Context.{Context}
use Rattle.context.specs.Context.{start_row, set_row, entering}
use Rattle.context.specs.Talk.{no_talk}
use Rattle.context.specs.Remembered.{returning}
use Rattle.context.proofs.Whole.{and_left, and_right}
use Rattle.fitness.specs.Fitness.{obeys, timers_fit_by}
use Rattle.fitness.specs.Tables.{fitness_of, term_runs, fit_of}
use Rattle.fitness.proofs.Tables.{fit-timers, fit-silent}
use Rattle.transitions.specs.declared.Send.TheVariants as Send
use Rattle.transitions.specs.declared.Memory.TheVariants.{Forget}
use Rattle.timer.specs.declared.Timer.TheVariants.{Term}
use Rattle.context.specs.declared.Remembered.{Remembered}
use Rattle.transitions.specs.declared.Stores.TheVariants as Stores
use Rattle.transitions.specs.declared.Note.TheVariants as Note
use Rattle.transitions.specs.declared.Taken.{Taken}
use Rattle.transitions.specs.declared.Decision.{Decision}
use Rattle.transitions.specs.declared.Decision.TheVariants.{Take}
use Rattle.transitions.specs.Table.{step_table, heard_in}
use Rattle.transitions.proofs.InState.{heard_in_state}
use Rattle.call.specs.declared.Event.TheVariants.{Received}
use Rattle.call.specs.declared.Settled.{Settled}
use Rattle.call.specs.declared.Seen.{Seen}
use Rattle.call.specs.Events.{no_reference, heard, seen_message, seen_of}
use Rattle.call.specs.Talk.{noted, adopted, originating, awaiting_after}
use Rattle.call.specs.Step.{parameters_after, value_after, reference_after, afterwards, silent, took, carried_out, step_by, step_value}

-- The tables in which it does.
abbrev pub leads_back : Table → Bool
leads_back First = false
leads_back Second = true
leads_back Third = true
leads_back Group = true

-- Its row.
abbrev pub back-there : Remembered → Taken
back-there r =
    record { next = returning r State.U5; actions = 1; sends = Send.Nothing; stops = Some Term; sets = None; stores = Stores.Nothing; memory = Forget; note = Note.Nothing }

row_of_reject : (table : Table) (x : Context) → leads_back table ≡ true → heard_in (step_table table) State.U5 x TERMINATION-REJECT ≡ Take (back-there x.remembered)
unfolding heard_in step_table protocol_of
row_of_reject First x e = never e
row_of_reject Second x e = refl
row_of_reject Third x e = refl
row_of_reject Group x e = refl

-- The message taken apart.
abbrev rejects : ℕ → Seen
rejects value = heard TERMINATION-REJECT value no_reference 0

-- By every such table: the row is taken, after a value that was awaited has been adopted, and what was pending is sent.
pub returns : (table : Table) (x : Context) → leads_back table ≡ true → x.state ≡ State.U5 → (mode value : ℕ) (cause : Run)
    → step_value table x (Received mode value (TerminationReject cause)) ≡ took (afterwards (adopted x (rejects value)) (back-there x.remembered) (rejects value)) 1 silent
unfolding step_by seen_of seen_message carried_out
returns table x leads waiting mode value cause =
    ap (λ (d : Decision). carried_out (fitness_of table) x d (rejects value))
    (sym (heard_in_state (step_table table) State.U5 x TERMINATION-REJECT (Take (back-there x.remembered)) waiting (sym (row_of_reject table x leads))))

module _ (table : Table) (leads : leads_back table ≡ true) (broadcast : protocol_of table ≡ Broadcast) (x : Context) (fit : fit_of table x ≡ true) (waiting : x.state ≡ State.U5) (mode value : ℕ)
    (cause : Run) where
  abbrev rejection : Settled
  rejection = step_value table x (Received mode value (TerminationReject cause))

  -- The state that is returned to, with its start row.
  abbrev returned : State → Context
  returned state = record {
    state = state;
    parameters = start_row state;
    timers = no_timers;
    value = x.value;
    reference = x.reference;
    remembered = Remembered.Nothing;
    talk = no_talk;
  }

  timers-fit : (not x.timers.mmest && (obeys (term_runs table) x.timers.term && (not x.timers.connreq && (not x.timers.nochannel && not x.timers.pres)))) ≡ true
  unfolding timers_fit_by fitness_of protocol_of
  timers-fit = rw waiting at (fit-timers table x fit)

  -- No timer but T_term runs in U5.
  others_fit : (not x.timers.connreq && (not x.timers.nochannel && not x.timers.pres)) ≡ true
  others_fit = and_right (obeys (term_runs table) x.timers.term) _ (and_right (not x.timers.mmest) _ timers-fit)

  no_mm_est : x.timers.mmest ≡ false
  no_mm_est = not-true _ (and_left (not x.timers.mmest) _ timers-fit)

  no_conn_req : x.timers.connreq ≡ false
  no_conn_req = not-true _ (and_left (not x.timers.connreq) _ others_fit)

  no_no_channel : x.timers.nochannel ≡ false
  no_no_channel = not-true _ (and_left (not x.timers.nochannel) _ (and_right (not x.timers.connreq) _ others_fit))

  no_pres : x.timers.pres ≡ false
  no_pres = not-true _ (and_right (not x.timers.nochannel) _ (and_right (not x.timers.connreq) _ others_fit))

  pub returns_to_u1 : x.remembered ≡ Remembered.U1 → rejection ≡ took (returned State.U1) 1 silent
  unfolding afterwards parameters_after entering start_row set_row with_timer value_after reference_after returning adopted originating noted awaiting_after
  returns_to_u1 e = returns table x leads waiting mode value cause ∙ rw (waiting, e, fit-silent table x fit broadcast, no_mm_est, no_conn_req, no_no_channel, no_pres)

  pub returns_to_u2 : x.remembered ≡ Remembered.U2 → rejection ≡ took (returned State.U2) 1 silent
  unfolding afterwards parameters_after entering start_row set_row with_timer value_after reference_after returning adopted originating noted awaiting_after
  returns_to_u2 e = returns table x leads waiting mode value cause ∙ rw (waiting, e, fit-silent table x fit broadcast, no_mm_est, no_conn_req, no_no_channel, no_pres)
