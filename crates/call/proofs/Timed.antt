-- Which timer runs after what is due is done by sound rows: one that is set did not run and runs, and else it is the one that ran, or none.
use Prim.Native.Nat.{ℕ}
use mathlib.Core.Path.{◌≡◌, refl, sym, ◌∙◌}
use mathlib.Core.List.{List}
use mathlib.Core.Bool.{Bool, true, false, cond, not, ◌&&◌, ◌||◌}
use lib.Dec.{eqb}
use borrow.Author.Tests.{eq-eqb, not-true}
use Rattle.octets.proofs.Choice.{at_cond, never}
use Rattle.codes.specs.declared.state.State.TheVariants.{U0}
use Rattle.codes.specs.declared.attributes.Parameters.{Parameters}
use Rattle.codes.specs.Attributes.{parameters_of}
use Rattle.timer.specs.declared.Timers.{Timers}
use Rattle.timer.specs.declared.Timer.TheVariants.{Term}
use Rattle.timer.specs.Timers.{is_on, timer_number, number_of_any, running_among}
use Rattle.context.specs.declared.Context.{Context}
use Rattle.context.specs.States.{same, among}
use Rattle.context.specs.Context.{cleared}
use Rattle.context.proofs.Whole.{and_left, and_right, and_both, if_so, at_timers}
use Rattle.fitness.specs.Fitness.{Fitness, consistent_by, timers_fit_by, fit_by}
use Rattle.fitness.proofs.Fit.{fit-timers}
use Rattle.fitness.proofs.Sound.{Sound as SoundFitness, request_timers, no_term, term_runs_lem}
use Rattle.context.specs.Running.{runs}
use Rattle.transitions.specs.declared.Taken.{Taken}
use Rattle.transitions.specs.declared.Decision.{Decision}
use Rattle.transitions.specs.declared.Decision.TheVariants.{Take, NoStep, Ignore, Report, TellStatus, SetParameters}
use Rattle.transitions.specs.Table.{Row, timers_after, decided_by, set_by}
use Rattle.transitions.proofs.Sound.{rightly, Sound}
use Rattle.transitions.proofs.Decided.{OfTaken, KeepsTalk, Keeps, SetRightly, decided_keeps, decided_talk, sets-rightly}
use Rattle.call.specs.declared.Due.{Due}
use Rattle.call.specs.declared.Due.TheVariants.{Steps, Ignored, Reported, Refused}
use Rattle.call.specs.declared.Reason.{Reason}
use Rattle.call.specs.declared.Seen.{Seen}
use Rattle.call.specs.declared.Settled.{Settled}
use Rattle.call.specs.Events.{seen_of}
use Rattle.call.specs.Talk.{with_value, adopted, awaiting_after, sent_in, flushed}
use Rattle.call.specs.Step.{value_after, afterwards, ignored, no_step, reported_with, status_told, with_parameters, parameters_set, carried_out, step_by}
use Rattle.call.specs.Due.{settled_by}
use Rattle.call.specs.Sets.{set_by_row, set_by_due_in}
use Rattle.call.proofs.Kept.{after, requesting-there, none_due, adopted-fit, consistent-after, timers-and_memory, requests_before, requests_after}

pub stays : (n : ℕ) → rightly 0 n n ≡ true
stays n = rw (eq-eqb n n refl) (go (eqb n 0))
  where
    go : (b : Bool) → (b || true) ≡ true
    go true = refl
    go false = refl

runs_after : (x : Context) (d : Taken) (e : Seen) → runs (afterwards x d e) ≡ cond (same d.next U0) 0 (running_among (timers_after d x.timers))
unfolding afterwards cleared running_among
runs_after x d e = go (same d.next U0) refl
  where
    go : (b : Bool) → same d.next U0 ≡ b → runs (afterwards x d e) ≡ cond b 0 (running_among (timers_after d x.timers))
    go true u = rw u
    go false u = rw u

-- Where T_term does not run, the timer that runs is another.
other-runs : (t : Timers) → is_on Term t ≡ false → eqb (running_among t) (timer_number Term) ≡ false
unfolding running_among
other-runs t off = not-true _ (if_so (not (is_on Term t)) _ (at_timers (λ t. not (not (is_on Term t)) || not (eqb (running_among t) (timer_number Term))) refl t) (off_so (is_on Term t) off))
  where
    off_so : (b : Bool) → b ≡ false → not b ≡ true
    off_so b e = rw e

-- Which timer is set where a context is taken: T_term where a pending request is sent.
abbrev set_in : Context → ℕ → ℕ
set_in y set = cond (sent_in y).request (timer_number Term) set

module _ (fitness : Fitness) (x : Context) where
  abbrev pub Timed : ℕ → Settled → Type 0
  Timed set r = rightly set (runs x) (runs r.context) ≡ true

  -- What is taken without a request, and with one.
  flushed-timed : (y : Context) (set : ℕ) → rightly set (runs x) (runs y) ≡ true
      → ((sent_in y).request ≡ true → (eqb (running_among (request_timers y.timers)) (timer_number Term) ≡ true) × (eqb (runs x) (timer_number Term) ≡ false))
      → rightly (set_in y set) (runs x) (runs (flushed y)) ≡ true
  unfolding flushed
  flushed-timed y set e f = go (sent_in y).request refl
    where
      go : (b : Bool) → (sent_in y).request ≡ b → rightly (set_in y set) (runs x) (runs (flushed y)) ≡ true
      go true q = rw q (and_both _ _ (f q).0 (rw (f q).1))
      go false q = rw q e

  -- Where nothing is set but, perhaps, T_term for a request.
  abbrev Still : Settled → Type 0
  Still r = Timed (cond r.sent.request (timer_number Term) 0) r

  ignored-timed : (reason : Reason) → Still (ignored reason x)
  unfolding ignored
  ignored-timed reason = stays (runs x)

  none-timed : Still (no_step x)
  unfolding no_step
  none-timed = stays (runs x)

  reported_timed : (cause : ℕ) → Still (reported_with cause x)
  unfolding reported_with
  reported_timed cause = at_cond Still x.parameters.comm _ _ (λ e. stays (runs x)) (λ e. ignored-timed _)

-- A request that is sent: T_term runs then, and did not before.
abbrev Requested : Context → Context → Type 0
Requested x y = (eqb (running_among (request_timers y.timers)) (timer_number Term) ≡ true) × (eqb (runs x) (timer_number Term) ≡ false)

module _ (fitness : Fitness) (good : SoundFitness fitness) (x : Context) (fit : fit_by fitness x ≡ true) where
  not-set-before : among x.state fitness.requesting ≡ true → eqb (runs x) (timer_number Term) ≡ false
  not-set-before pends = other-runs x.timers (no_term fitness good x.state pends x.timers (fit-timers fitness x fit))

  -- Behind a row.
  row_requests : (d : Taken) (e : Seen) → Keeps fitness x (Take d) → KeepsTalk fitness x d → same d.next U0 ≡ false → (sent_in (after x d e)).request ≡ true → Requested x (after x d e)
  unfolding sent_in awaiting_after
  row_requests d e keeps talks u r =
      let speaks = and_left (after x d e).parameters.comm _ r in
      let pends = and_right (after x d e).parameters.orig _ (and_right (after x d e).parameters.comm _ r) in (
        term_runs_lem fitness good d.next (requests_after fitness good x fit d e keeps talks u pends) (after x d e).parameters speaks (consistent-after fitness good x fit d e keeps talks u)
            (timers_after d x.timers) (and_left (timers_fit_by fitness d.next (timers_after d x.timers)) _ (timers-and_memory fitness good x fit d e keeps talks u)),
        not-set-before (requests_before fitness good x fit d e keeps talks u pends),
      )

  -- Behind SET PARAMETER.
  set_requests : (p : Parameters) → consistent_by fitness x.state p ≡ true → (sent_in (with_parameters p x)).request ≡ true → Requested x (with_parameters p x)
  unfolding sent_in
  set_requests p q r =
      let pends = requesting-there fitness good x fit (and_right p.orig _ (and_right p.comm _ r)) in
      (term_runs_lem fitness good x.state pends p (and_left p.comm _ r) q x.timers (fit-timers fitness x fit), not-set-before pends)

-- A row that is taken from `y`, which is `x` but for its value.
module _ (fitness : Fitness) (x y : Context) (d : Taken) (e : Seen)
    (f : same d.next U0 ≡ false → (sent_in (after y d e)).request ≡ true → Requested x (after y d e)) where
  entered_requests : (sent_in (afterwards y d e)).request ≡ true → Requested x (afterwards y d e)
  unfolding afterwards sent_in cleared
  entered_requests = at_cond (λ z. (sent_in z).request ≡ true → Requested x z) (same d.next U0) cleared (after y d e) (λ u r. never r) f

  row-timed : rightly (number_of_any d.sets) (runs x) (runs (afterwards y d e)) ≡ true
      → rightly (set_in (afterwards y d e) (number_of_any d.sets)) (runs x) (runs (flushed (afterwards y d e))) ≡ true
  row-timed q = flushed-timed fitness x (afterwards y d e) (number_of_any d.sets) q entered_requests

module _ (fitness : Fitness) (most : ℕ) (table : List Row) (sound : Sound fitness most table) (x : Context) (fit : fit_by fitness x ≡ true) where
  abbrev good : SoundFitness fitness
  good = sound.fitness_sound

  -- Whichever value is adopted, the timers are as with value 0.
  abbrev given : x.talk.awaiting ≡ true → fit_by fitness (with_value 0 x) ≡ true
  given a = adopted-fit fitness good x fit 0 refl a

  carried-timed : (d : Decision) (e : Seen) → Keeps fitness x d → OfTaken (KeepsTalk fitness x) d → OfTaken (SetRightly x) d
      → Timed fitness x (cond (carried_out fitness x d e).sent.request (timer_number Term) (set_by d)) (carried_out fitness x d e)
  unfolding carried_out status_told parameters_set adopted sent_in value_after
  carried-timed (Take d) e keeps talks q =
      at_cond (λ y. rightly (set_in (afterwards y d e) (number_of_any d.sets)) (runs x) (runs (flushed (afterwards y d e))) ≡ true) (x.talk.awaiting && eqb e.number 18)
      (with_value e.value x) x
      (λ a. row-timed fitness x (with_value e.value x) d e (row_requests fitness good (with_value 0 x) (given (and_left x.talk.awaiting _ a)) d e keeps talks)
      (rw (runs_after (with_value e.value x) d e) q))
      (λ a. row-timed fitness x x d e (row_requests fitness good x fit d e keeps talks) (rw (runs_after x d e) q))
  carried-timed NoStep e keeps talks q = none-timed fitness x
  carried-timed Ignore e keeps talks q = ignored-timed fitness x _
  carried-timed (Report cause) e keeps talks q = reported_timed fitness x cause
  carried-timed TellStatus e keeps talks q =
      at_cond (Still fitness x) x.parameters.comm _ _ (λ u. flushed-timed fitness x x 0 (stays (runs x)) (λ r. never (sym (none_due fitness good x fit) ∙ r)))
      (λ u. ignored-timed fitness x _)
  carried-timed SetParameters e keeps talks q =
      at_cond (Still fitness x) (consistent_by fitness x.state (parameters_of e.attributes)) _ _
      (λ u. at_cond (λ y. rightly (set_in (with_parameters (parameters_of e.attributes) y) 0) (runs x) (runs (flushed (with_parameters (parameters_of e.attributes) y))) ≡ true)
      (x.talk.awaiting && eqb e.number 18) (with_value e.value x) x
      (λ a. flushed-timed fitness x (with_parameters (parameters_of e.attributes) (with_value e.value x)) 0 (stays (runs x))
      (set_requests fitness good (with_value 0 x) (given (and_left x.talk.awaiting _ a)) (parameters_of e.attributes) u))
      (λ a. flushed-timed fitness x (with_parameters (parameters_of e.attributes) x) 0 (stays (runs x)) (set_requests fitness good x fit (parameters_of e.attributes) u)))
      (λ u. reported_timed fitness x 98)

  pub timed-by : (due : Due) → Timed fitness x (set_by_due_in fitness table x due) (settled_by fitness table x due)
  unfolding settled_by step_by set_by_due_in set_by_row
  timed-by (Steps event) =
      carried-timed (decided_by table x (seen_of event).number (seen_of event).code) (seen_of event)
      (decided_keeps fitness most table sound x (seen_of event).number (seen_of event).code) (decided_talk fitness most table sound x (seen_of event).number (seen_of event).code)
      (sets-rightly fitness most table sound x fit (seen_of event).number (seen_of event).code)
  timed-by (Ignored reason) = ignored-timed fitness x reason
  timed-by (Reported cause) = reported_timed fitness x cause
  timed-by Refused = none-timed fitness x
