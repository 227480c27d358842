-- T_no channel in U6, by the tables of a broadcast call: "no channel" sets it unless it runs, and as long as the radio stays in U6 only "channel available" stops it. So
-- after any "no channel" that no "channel available" followed it runs, whether that one set it or one before.
use Prim.Native.Nat.{ℕ, ◌/◌, ◌%◌}
use mathlib.Core.Path.{◌≡◌, refl, sym, ap, subst, ◌∙◌}
use mathlib.Core.Bool.{Bool, true, false, cond, not, ◌&&◌, ◌||◌}
use mathlib.Core.List.{List, [], ◌∷◌}
use native.Mathlib.Omega.{arith}
use lib.Dec.{eqb}
use lib.ListN.{length, get_or}
use borrow.Author.Tests.{eqb-true, eqb-false, eq-eqb, ne_eqb}
use Rattle.octets.proofs.Choice.{at_cond, never}
use Rattle.codes.specs.declared.state.State.{State}
use Rattle.codes.specs.declared.state.State.TheVariants.{U0, U6}
use Rattle.codes.specs.declared.protocol.Protocol.{Protocol}
use Rattle.codes.specs.declared.protocol.Protocol.TheVariants.{Broadcast}
use Rattle.timer.specs.declared.Timer.TheVariants.{NoChannel}
use Rattle.timer.specs.declared.Timers.{Timers}
use Rattle.timer.specs.Timers.{timer_number, is_on, running_among, with_timer}
use Rattle.context.specs.declared.Context.{Context}
use Rattle.context.specs.Context.{cleared}
use Rattle.context.specs.Remembered.{returning}
use Rattle.context.specs.Running.{runs}
use Rattle.context.specs.States.{number_of, same}
use Rattle.context.proofs.States.{same-state}
use Rattle.context.proofs.Whole.{if_so, of_timers, at_timers}
use Rattle.fitness.specs.Fitness.{timers_fit_by, consistent_by}
use Rattle.fitness.specs.Tables.{fitness_of, timers_fit, fit_of}
use Rattle.fitness.proofs.Tables.{fit-timers}
use Rattle.transitions.specs.declared.Taken.{Taken}
use Rattle.transitions.specs.declared.Decision.{Decision}
use Rattle.transitions.specs.declared.Decision.TheVariants.{Take, NoStep, Ignore, Report, TellStatus, SetParameters}
use Rattle.transitions.specs.Table.{to, act, set_unless_running, taken, step_table, happened_in, decided_by, timers_after}
use Rattle.transitions.proofs.Every.{Test, passes, decided_holds}
use Rattle.transitions.proofs.Decided.{OfTaken}
use Rattle.transitions.proofs.InState.{happened_in_state, no_message}
use Rattle.call.specs.declared.Due.{Due}
use Rattle.call.specs.declared.Due.TheVariants.{Steps, Ignored, Reported, Refused}
use Rattle.call.specs.declared.Event.TheVariants as Event
use Rattle.call.specs.declared.Seen.{Seen}
use Rattle.call.specs.declared.Settled.{Settled}
use Rattle.call.specs.Due.{settled_by, settled}
use Rattle.call.specs.Events.{bare, carrying, seen_of}
use Rattle.call.specs.Step.{afterwards, ignored, no_step, reported_with, status_told, with_parameters, parameters_set, carried_out, step_by, step_value}
use Rattle.call.specs.Talk.{with_value, adopted, sent_in, flushed}
use Rattle.call.specs.Waiting.{number_due}
use Rattle.codes.specs.Attributes.{parameters_of}
use Rattle.message.specs.declared.Own.{Own}
use Rattle.received.proofs.Rules.{every_due}
use Rattle.step_arguments.specs.Arguments.{settings_out, out_of_range}
use Rattle.radio.specs.declared.Happened.{Happened}
use Rattle.std.specs.Prelude.{Option, Some, None}
use Rattle.call.specs.declared.Event.{Event}
use Rattle.radio.specs.Step.{event_of, told_due, due_to, reacted_to, Reaction, refusal_of}
use Rattle.radio.proofs.Numbers.{IsOf, event_of_number, message-number}
use Rattle.radio.proofs.Range.{passed}
use Rattle.radio.proofs.Reacting.{of_step, step_by_lem}
use Rattle.version.specs.declared.Table.{Table}
use Rattle.version.specs.declared.Table.TheVariants.{First, Second, Third, Group}
use Rattle.version.specs.Version.{has_event, protocol_of}
use Rattle.verdict.specs.Table.{GivenEvent, stepped}
use Rattle.waiting.proofs.Run.{Runs}

-- In U6 with T_no channel.
pub record Lost (x : Context) : Type 0 where
  pub there : number_of x.state ≡ number_of U6
  pub on : x.timers.nochannel ≡ true

-- ---- what a step brings about, where it ends in U6

-- Where a context is in U6, T_no channel runs in it.
abbrev LostIf : Context → Type 0
LostIf x = number_of x.state ≡ number_of U6 → x.timers.nochannel ≡ true

-- What was pending and is sent leads to U5, and else state and timers stay.
flushed-lost : (y : Context) → LostIf y → LostIf (flushed y)
unfolding flushed
flushed-lost y h = go (sent_in y).request refl
  where
    go : (b : Bool) → (sent_in y).request ≡ b → LostIf (flushed y)
    go true q = rw q (λ e. absurd (omega arith))
    go false q = rw q h

-- A row, by its next state and the timers after it.
abbrev RowLost : Timers → Taken → Type 0
RowLost t d = number_of d.next ≡ number_of U6 → (timers_after d t).nochannel ≡ true

after-lost : (y : Context) (d : Taken) (e : Seen) → RowLost y.timers d → LostIf (afterwards y d e)
unfolding afterwards cleared
after-lost y d e h = at_cond LostIf (same d.next U0) _ _ (λ u q. absurd (omega arith)) (λ u. h)

module _ (table : Table) (x : Context) where
  row-lost : (d : Taken) (e : Seen) → RowLost x.timers d → LostIf (carried_out (fitness_of table) x (Take d) e).context
  unfolding carried_out adopted
  row-lost d e h =
      at_cond (λ y. LostIf (flushed (afterwards y d e))) (x.talk.awaiting && eqb e.number 18) (with_value e.value x) x
      (λ a. flushed-lost _ (after-lost (with_value e.value x) d e h)) (λ a. flushed-lost _ (after-lost x d e h))

  -- What takes no row leaves state and timers, where nothing is sent.
  module _ (h : LostIf x) where
    reported_lost : (cause : ℕ) → LostIf (reported_with cause x).context
    unfolding reported_with ignored
    reported_lost cause = at_cond (λ (r : Settled). LostIf r.context) x.parameters.comm _ _ (λ e. h) (λ e. h)

    carried-lost : (d : Decision) (e : Seen) → OfTaken (RowLost x.timers) d → LostIf (carried_out (fitness_of table) x d e).context
    unfolding carried_out no_step ignored status_told parameters_set adopted
    carried-lost (Take d) e k = row-lost d e k
    carried-lost NoStep e k = h
    carried-lost Ignore e k = h
    carried-lost (Report cause) e k = reported_lost cause
    carried-lost TellStatus e k = at_cond (λ (r : Settled). LostIf r.context) x.parameters.comm _ _ (λ u. flushed-lost x h) (λ u. h)
    carried-lost SetParameters e k =
        at_cond (λ (r : Settled). LostIf r.context) (consistent_by (fitness_of table) x.state (parameters_of e.attributes)) _ _
        (λ u. at_cond (λ y. LostIf (flushed (with_parameters (parameters_of e.attributes) y))) (x.talk.awaiting && eqb e.number 18) (with_value e.value x) x
        (λ a. flushed-lost _ h) (λ a. flushed-lost _ h))
        (λ u. reported_lost 98)

-- ---- what the rows say, computed

-- A row that leads to U6, but for that of "channel available", leaves T_no channel running if it ran, and that of "no channel" leaves it running in any case.
abbrev runs_on : Test
runs_on n s t r d = not (same d.next U6) || (eqb n 13 || (not (eqb n 12 || is_on NoChannel t) || is_on NoChannel (timers_after d t)))

runs-on-first : passes runs_on (step_table First) ≡ true
unfolding step_table protocol_of returning with_timer
runs-on-first = refl

runs-on-second : passes runs_on (step_table Second) ≡ true
unfolding step_table protocol_of returning with_timer
runs-on-second = refl

runs-on_third : passes runs_on (step_table Third) ≡ true
unfolding step_table protocol_of returning with_timer
runs-on_third = refl

abbrev pub is_broadcast : Protocol → Bool
is_broadcast Protocol.Broadcast = true
is_broadcast Protocol.Group = false

runs_on_lem : (table : Table) → protocol_of table ≡ Broadcast → passes runs_on (step_table table) ≡ true
unfolding protocol_of
runs_on_lem First b = runs-on-first
runs_on_lem Second b = runs-on-second
runs_on_lem Third b = runs-on_third
runs_on_lem Group b = never (ap is_broadcast b)

module _ (table : Table) (broadcast : protocol_of table ≡ Broadcast) (x : Context) where
  stays_on : (n : ℕ) (d : Taken) → runs_on n x.state x.timers x.remembered d ≡ true → eqb n 13 ≡ false → (eqb n 12 || x.timers.nochannel) ≡ true → RowLost x.timers d
  stays_on n d e other on q = if_so (eqb n 12 || is_on NoChannel x.timers) _ (rw other at (if_so (same d.next U6) _ e (eq-eqb _ _ q))) on

  decided_lost : (n code : ℕ) → eqb n 13 ≡ false → (eqb n 12 || x.timers.nochannel) ≡ true → OfTaken (RowLost x.timers) (decided_by (step_table table) x n code)
  decided_lost =
      decided_holds runs_on (λ k d. eqb k 13 ≡ false → (eqb k 12 || x.timers.nochannel) ≡ true → OfTaken (RowLost x.timers) d) x (λ k d e. stays_on k d e) (λ k other on. tt)
      (λ cause other on. tt) (step_table table) (runs_on_lem table broadcast) (λ u other on. tt) (λ other on. tt) (λ u other on. tt)

-- ---- only "channel available" stops it

-- An event's number where it steps: a message's is 18, and that of any other is the number it was given by.
number_due_lem : (table : Table) (identity : List ℕ) (x : Context) (h : Happened) (s : List ℕ) → (h.number ≡ 13 → ⊥) → eqb (number_due (due_to table identity x h s)) 13 ≡ false
unfolding due_to told_due seen_of
number_due_lem table identity x h s n =
    at_cond (λ due. eqb (number_due due) 13 ≡ false) (eqb h.number 18) _ _
    (λ e. every_due (λ due. eqb (number_due due) 13 ≡ false) (λ reason. refl) x s (λ fits cause. refl) (λ fits mode m. rw (message-number (get_or s 0 0 / 16 % 8) m)) table identity h.mode)
    (λ e. told (event_of h.number h.value h.reference) (event_of_number h.number h.value h.reference))
  where
    carried : (b : Bool) → eqb (cond b (carrying h.number h.value h.reference) (bare h.number)).number 13 ≡ false
    carried true = ne_eqb h.number 13 n
    carried false = ne_eqb h.number 13 n

    told : (t : Option Event) → IsOf h.number h.value h.reference t → eqb (number_due (told_due t)) 13 ≡ false
    told (Some event) p = subst (λ (seen : Seen). eqb seen.number 13 ≡ false) (sym p) (carried (eqb h.number 1 || (eqb h.number 2 || eqb h.number 10)))
    told None p = refl

or-true : (a b : Bool) → b ≡ true → (a || b) ≡ true
or-true true b e = refl
or-true false b e = e

module _ (table : Table) (broadcast : protocol_of table ≡ Broadcast) (x : Context) (on : x.timers.nochannel ≡ true) where
  settled-lost : (due : Due) → eqb (number_due due) 13 ≡ false → LostIf (settled table x due).context
  unfolding settled_by step_by ignored no_step
  settled-lost (Steps event) other =
      carried-lost table x (λ e. on) (decided_by (step_table table) x (seen_of event).number (seen_of event).code) (seen_of event)
      (decided_lost table broadcast x (seen_of event).number (seen_of event).code other (or-true (eqb (seen_of event).number 12) _ on))
  settled-lost (Ignored reason) other = λ e. on
  settled-lost (Reported cause) other = reported_lost table x (λ e. on) cause
  settled-lost Refused other = λ e. on

  pub kept-lost : (own : Own) (identity : List ℕ) (e : GivenEvent) → (e.happened.number ≡ 13 → ⊥) → LostIf (stepped table own identity x e).context
  unfolding reacted_to
  kept-lost own identity e other =
      of_step table own identity 255 x e.happened e.octets (λ r. LostIf r.context) (λ q. on)
      (λ o. settled-lost (due_to table identity x e.happened e.octets) (number_due_lem table identity x e.happened e.octets other))

-- ---- "no channel" sets it unless it runs

-- Its row in U6.
abbrev lost_row : Context → Taken
lost_row x = taken U6 x.timers x.remembered (to U6) (act 1) (set_unless_running NoChannel ∷ [])

row_in_u6 : (table : Table) (x : Context) → protocol_of table ≡ Broadcast → happened_in (step_table table) U6 x 12 ≡ Take (lost_row x)
unfolding happened_in step_table protocol_of
row_in_u6 First x b = refl
row_in_u6 Second x b = refl
row_in_u6 Third x b = refl
row_in_u6 Group x b = never (ap is_broadcast b)

module _ (table : Table) (broadcast : protocol_of table ≡ Broadcast) (x : Context) where
  -- In U6 that row is taken; elsewhere none leads there.
  step-lost : LostIf (step_value table x Event.NoChannel).context
  unfolding step_by seen_of
  step-lost = go (same x.state U6) refl
    where
      sets : OfTaken (RowLost x.timers) (decided_by (step_table table) x 12 0)
      sets = decided_lost table broadcast x 12 0 refl refl

      go : (b : Bool) → same x.state U6 ≡ b → LostIf (step_value table x Event.NoChannel).context
      go true here =
          let row : decided_by (step_table table) x 12 0 ≡ Take (lost_row x)
          = sym (no_message (step_table table) x 12 0 (Take (lost_row x)) (λ e. omega (arith, e))
          (happened_in_state (step_table table) U6 x 12 (Take (lost_row x)) (same-state x.state U6 here) (sym (row_in_u6 table x broadcast)))) in
          subst (λ (d : Decision). LostIf (carried_out (fitness_of table) x d (bare 12)).context) (sym row)
          (row-lost table x (lost_row x) (bare 12) (subst (OfTaken (RowLost x.timers)) row sets))
      go false there = carried-lost table x (λ e. absurd (eqb-false _ _ there e)) (decided_by (step_table table) x 12 0) (bare 12) sets

  -- "No channel" is never refused in a fit context, with settings in range; so its step is taken, where there is one.
  has_lost : has_event table 12 ≡ true
  unfolding has_event
  has_lost = elim table as (λ v. has_event v 12 ≡ true) [ First ↦ refl | Second ↦ refl | Third ↦ refl | Group ↦ refl ]

  module _ (own : Own) (identity : List ℕ) (settings : settings_out own.key (length identity) ≡ false) (fit : fit_of table x ≡ true) where
    not-refused : (h : Happened) (s : List ℕ) → h.number ≡ 12 → refusal_of table x own.key (length identity) h (length s) 255 ≡ 0
    unfolding out_of_range
    not-refused h s e = passed table x own.key (length identity) h (length s) 255 fit (omega arith) (rw e) (rw (settings, e, has_lost))

    pub set-lost : (e : GivenEvent) → e.happened.number ≡ 12 → LostIf (stepped table own identity x e).context
    unfolding reacted_to due_to event_of told_due settled_by
    set-lost e n =
        let q : (stepped table own identity x e).context ≡ (step_value table x Event.NoChannel).context
        = ap (λ (r : Reaction). r.context) (step_by_lem table own identity 255 x e.happened e.octets) ∙ rw (not-refused e.happened e.octets n, n) in
        subst LostIf (sym q) step-lost

-- ---- so it runs from a "no channel" on

-- Which timer runs in U6, where T_no channel does.
abbrev no_channel_runs : Table → Timers → Bool
no_channel_runs table t = not (timers_fit table U6 t) || (not t.nochannel || eqb (running_among t) (timer_number NoChannel))

no_channel_runs_lem : (table : Table) → of_timers (no_channel_runs table) ≡ true
unfolding timers_fit_by fitness_of protocol_of running_among
no_channel_runs_lem First = refl
no_channel_runs_lem Second = refl
no_channel_runs_lem Third = refl
no_channel_runs_lem Group = refl

lost-runs : (table : Table) (x : Context) → fit_of table x ≡ true → Lost x → runs x ≡ timer_number NoChannel
lost-runs table x fit l =
    let fits : timers_fit table U6 x.timers ≡ true
    = subst (λ (s : State). timers_fit table s x.timers ≡ true) (same-state x.state U6 (eq-eqb _ _ l.there)) (fit-timers table x fit) in
    eqb-true _ _ (if_so x.timers.nochannel _ (if_so (timers_fit table U6 x.timers) _ (at_timers (no_channel_runs table) (no_channel_runs_lem table) x.timers) fits) l.on)

-- A stretch begins with a "no channel" that leaves the radio in U6, and goes on while it stays there without a "channel available".
abbrev pub Loses : ℕ → ℕ → Type 0
Loses event state = (event ≡ 12) × (state ≡ number_of U6)

abbrev pub Lacks : ℕ → ℕ → Type 0
Lacks event state = (state ≡ number_of U6) × (event ≡ 13 → ⊥)

pub one_loss : (table : Table) → protocol_of table ≡ Broadcast → (own : Own) (identity : List ℕ) → settings_out own.key (length identity) ≡ false
    → Runs table own identity (timer_number NoChannel) Lost Loses Lacks
one_loss table broadcast own identity settings = record {
  running = lost-runs table;
  begun = λ x e fit b. record { there = b.1; on = set-lost table broadcast x own identity settings fit e b.0 b.1 };
  kept = λ x e fit l s. record { there = s.0; on = kept-lost table broadcast x l.on own identity e s.1 s.0 };
}
