-- An invitation by the third table, in so many words: T_pres runs from the notification on; join stops it and sets T_conn req; at its expiry the context is cleared and U0
-- entered, with action 0; nowhere else has its expiry a step, and by the other tables nowhere at all.
use Prim.Native.Nat.{ℕ}
use mathlib.Core.Path.{◌≡◌, refl, sym, ap, ◌∙◌}
use mathlib.Core.Bool.{Bool, true, false, cond, not, ◌&&◌, ◌||◌}
use native.Mathlib.Omega.{arith}
use borrow.Author.Tests.{not-true}
use Rattle.octets.proofs.Choice.{never}
use Rattle.std.specs.Prelude.{Some, None}
use Rattle.codes.specs.declared.state.State.{State}
use Rattle.codes.specs.declared.state.State.TheVariants.{U0, U3, U4}
use Rattle.octets.specs.declared.Reference.{Reference}
use Rattle.timer.specs.declared.Timer.TheVariants.{ConnReq, Pres}
use Rattle.timer.specs.Timers.{timer_number, alone, with_timer}
use Rattle.version.specs.declared.Table.{Table}
use Rattle.version.specs.declared.Table.TheVariants.{First, Second, Third, Group}
use Rattle.version.specs.Version.{protocol_of}
use Rattle.codes.specs.declared.protocol.Protocol.TheVariants.{Broadcast}
use Rattle.context.specs.declared.Context.{Context}
use Rattle.context.specs.declared.Remembered.TheVariants as Remembered
use Rattle.context.specs.States.{same}
use Rattle.context.specs.Context.{start_row, set_row, entering, cleared}
use Rattle.context.specs.Talk.{no_talk}
use Rattle.context.proofs.Whole.{and_left, and_right, if_so, in_states, at_state}
use Rattle.fitness.specs.Fitness.{timers_fit_by}
use Rattle.fitness.specs.Tables.{fitness_of, fit_of}
use Rattle.fitness.proofs.Tables.{fit-timers, fit-silent}
use Rattle.transitions.specs.declared.Send.TheVariants.{Nothing}
use Rattle.transitions.specs.declared.Stores.TheVariants as Stores
use Rattle.transitions.specs.declared.Memory.TheVariants.{Keep}
use Rattle.transitions.specs.declared.Note.TheVariants as Note
use Rattle.transitions.specs.declared.Taken.{Taken}
use Rattle.transitions.specs.declared.Decision.{Decision}
use Rattle.transitions.specs.declared.Decision.TheVariants.{Take, NoStep, Ignore, Report, TellStatus, SetParameters}
use Rattle.transitions.specs.Table.{step_table, happened_in, decided_in, decided_by}
use Rattle.transitions.proofs.InState.{happened_in_state, no_message}
use Rattle.call.specs.declared.Event.{Event}
use Rattle.call.specs.declared.Event.TheVariants.{Join, Notified, PresExpired}
use Rattle.call.specs.declared.Seen.{Seen}
use Rattle.call.specs.Events.{bare, seen_of}
use Rattle.call.specs.Talk.{noted, adopted, originating, awaiting_after, sent_in, flushed}
use Rattle.call.specs.Step.{parameters_after, value_after, reference_after, afterwards, silent, took, no_step, carried_out, step_by, step_value}

-- Notified: the invitation's value and reference, and T_pres alone runs.
pub notified : (value : ℕ) (reference : Reference) → step_value Third cleared (Notified value reference)
    ≡ took (record { state = U3; parameters = start_row U3; timers = alone (timer_number Pres); value = value; reference = reference; remembered = Remembered.Nothing; talk = no_talk }) 1 silent
unfolding step_by seen_of decided_by decided_in happened_in step_table protocol_of carried_out afterwards parameters_after entering start_row set_row with_timer value_after reference_after cleared alone adopted originating noted awaiting_after flushed sent_in
notified value reference = refl

-- ---- the rows

-- The step of an event that carries nothing, by its row in the context's state.
pub step_in : (table : Table) (x : Context) (s : State) (event : Event) (n : ℕ) → seen_of event ≡ bare n → (n ≡ 18 → ⊥) → x.state ≡ s
    → (d : Decision) → happened_in (step_table table) s x n ≡ d → step_value table x event ≡ carried_out (fitness_of table) x d (bare n)
unfolding step_by
step_in table x s event n b o e d h =
    ap (λ (seen : Seen). carried_out (fitness_of table) x (decided_by (step_table table) x seen.number seen.code) seen) b
    ∙ ap (λ (c : Decision). carried_out (fitness_of table) x c (bare n)) (sym (no_message (step_table table) x n 0 d o (happened_in_state (step_table table) s x n d e (sym h))))

seen_expiry : seen_of PresExpired ≡ bare 19
unfolding seen_of
seen_expiry = refl

seen_join : seen_of Join ≡ bare 3
unfolding seen_of
seen_join = refl

abbrev ends : Taken
ends = record { next = U0; actions = 0; sends = Nothing; stops = None; sets = None; stores = Stores.Nothing; memory = Keep; note = Note.Nothing }

abbrev joins : Taken
joins = record { next = U4; actions = 4; sends = Nothing; stops = Some Pres; sets = Some ConnReq; stores = Stores.Nothing; memory = Keep; note = Note.Nothing }

row_of_19 : (x : Context) → happened_in (step_table Third) U3 x 19 ≡ cond x.timers.pres (Take ends) NoStep
unfolding happened_in step_table protocol_of
row_of_19 x = refl

row_of_3 : (x : Context) → happened_in (step_table Third) U3 x 3 ≡ Take joins
unfolding happened_in step_table protocol_of
row_of_3 x = refl

-- No other state has a row of 19, by any table, and by the first two and in a group call U3 has none.
abbrev is_none : Decision → Bool
is_none (Take d) = false
is_none NoStep = true
is_none Ignore = false
is_none (Report cause) = false
is_none TellStatus = false
is_none SetParameters = false

none : (d : Decision) → is_none d ≡ true → d ≡ NoStep
none (Take d) e = never e
none NoStep e = refl
none Ignore e = never e
none (Report cause) e = never e
none TellStatus e = never e
none SetParameters e = never e

abbrev otherwise_none : Table → Context → State → Bool
otherwise_none table x s = not (not (same s U3)) || is_none (happened_in (step_table table) s x 19)

no_row_elsewhere : (table : Table) (x : Context) → in_states (otherwise_none table x) ≡ true
unfolding happened_in step_table protocol_of
no_row_elsewhere First x = refl
no_row_elsewhere Second x = refl
no_row_elsewhere Third x = refl
no_row_elsewhere Group x = refl

no_row_of_19 : (table : Table) (x : Context) (s : State) → same s U3 ≡ false → happened_in (step_table table) s x 19 ≡ NoStep
no_row_of_19 table x s o = none _ (if_so (not (same s U3)) _ (at_state (otherwise_none table x) (no_row_elsewhere table x) s) (rw o))

-- The tables in which an invitation has no timer.
abbrev untimed : Table → Bool
untimed First = true
untimed Second = true
untimed Third = false
untimed Group = true

no_row_in_u3 : (table : Table) (x : Context) → untimed table ≡ true → happened_in (step_table table) U3 x 19 ≡ NoStep
unfolding happened_in step_table protocol_of
no_row_in_u3 First x e = refl
no_row_in_u3 Second x e = refl
no_row_in_u3 Third x e = never e
no_row_in_u3 Group x e = refl

-- ---- in U3, by the third table

broadcast : protocol_of Third ≡ Broadcast
unfolding protocol_of
broadcast = refl

module _ (x : Context) (fit : fit_of Third x ≡ true) (invited : x.state ≡ U3) where
  timers-fit : (not x.timers.mmest && (not x.timers.term && (not x.timers.connreq && (not x.timers.nochannel && x.timers.pres)))) ≡ true
  unfolding timers_fit_by fitness_of protocol_of
  timers-fit = rw invited at (fit-timers Third x fit)

  behind_mm_est : (not x.timers.term && (not x.timers.connreq && (not x.timers.nochannel && x.timers.pres))) ≡ true
  behind_mm_est = and_right (not x.timers.mmest) _ timers-fit

  behind_conn_req : (not x.timers.nochannel && x.timers.pres) ≡ true
  behind_conn_req = and_right (not x.timers.connreq) _ (and_right (not x.timers.term) _ behind_mm_est)

  no_mm_est : x.timers.mmest ≡ false
  no_mm_est = not-true _ (and_left (not x.timers.mmest) _ timers-fit)

  no_term : x.timers.term ≡ false
  no_term = not-true _ (and_left (not x.timers.term) _ behind_mm_est)

  no_no_channel : x.timers.nochannel ≡ false
  no_no_channel = not-true _ (and_left (not x.timers.nochannel) _ behind_conn_req)

  -- "The timer always runs in U3, and \"fit\" says so".
  pub runs-there : x.timers.pres ≡ true
  runs-there = and_right (not x.timers.nochannel) _ behind_conn_req

  -- "at expiry the context is cleared and U0 entered, with action 0"
  pub forgotten : step_value Third x PresExpired ≡ took cleared 0 silent
  unfolding carried_out afterwards flushed sent_in cleared adopted
  forgotten = step_in Third x U3 PresExpired 19 seen_expiry (λ e. omega (arith, e)) invited (Take ends) (row_of_19 x ∙ rw runs-there)

  -- Joined: T_conn req alone runs, and the rest of the call stays.
  pub joined : step_value Third x Join
      ≡ took (record { state = U4; parameters = start_row U4; timers = alone (timer_number ConnReq); value = x.value; reference = x.reference; remembered = x.remembered; talk = no_talk }) 4 silent
  unfolding carried_out afterwards parameters_after entering start_row set_row with_timer value_after reference_after alone adopted originating noted awaiting_after flushed sent_in
  joined = step_in Third x U3 Join 3 seen_join (λ e. omega (arith, e)) invited (Take joins) (row_of_3 x) ∙ rw (invited, fit-silent Third x fit broadcast, no_mm_est, no_term, no_no_channel)

-- ---- nowhere else

pub elsewhere : (table : Table) (x : Context) → same x.state U3 ≡ false → step_value table x PresExpired ≡ no_step x
unfolding carried_out
elsewhere table x other = step_in table x x.state PresExpired 19 seen_expiry (λ e. omega (arith, e)) refl NoStep (no_row_of_19 table x x.state other)

-- By the first two tables, and in a group call, nowhere at all.
pub untimed-nowhere : (table : Table) (x : Context) → untimed table ≡ true → x.state ≡ U3 → step_value table x PresExpired ≡ no_step x
unfolding carried_out
untimed-nowhere table x e invited = step_in table x U3 PresExpired 19 seen_expiry (λ e. omega (arith, e)) invited NoStep (no_row_in_u3 table x e)
