-- What a descriptor must pass, by tests that are computed over its rows; and what follows of any that does.
use Prim.Native.Nat.{◌≤◌}
use mathlib.Core.Path.{◌≡◌, refl}
use mathlib.Core.Bool.{Bool, true, false, cond, not, ◌&&◌, ◌||◌}
use lib.Dec.{eqb, leb}
use Rattle.std.specs.Prelude.{Some}
use borrow.Author.Tests.{leb-true, not-true}
use Rattle.octets.proofs.Choice.{never as impossible}
use Rattle.codes.specs.declared.state.State.{State}
use Rattle.codes.specs.declared.state.State.TheVariants.{U0, U5}
use Rattle.codes.specs.declared.attributes.Parameters.{Parameters}
use Rattle.timer.specs.declared.Timer.TheVariants.{MmEst, Term, ConnReq, NoChannel, Pres}
use Rattle.timer.specs.declared.Timers.{Timers}
use Rattle.timer.specs.Timers.{is_on, timer_number, running_among, with_timer, how_many, no_timers, alone}
use Rattle.timer.proofs.Few.{within, few-within, few-alone}
use Rattle.context.specs.declared.Context.{Context}
use Rattle.context.specs.declared.Remembered.TheVariants.{Nothing}
use Rattle.context.specs.declared.Chooser.{Chooser}
use Rattle.context.specs.Remembered.{remembering}
use Rattle.context.specs.Context.{start_row, set_row, entering, cleared}
use Rattle.context.specs.States.{among}
use Rattle.context.specs.Running.{runs}
use Rattle.context.proofs.Whole.{and_left, and_right, and_both, if_so, of_timers, at_timers, in_states, at_state, of_parameters, at_parameters, of_choosers, at_chooser}
use Rattle.fitness.specs.Fitness.{Fitness, Runs, always, optionally, never, obeys, when_runs, consistent_by, timers_fit_by, remembered_fit_by, chooser_fit_by, talk_fit_by, is_cleared, fit_by}
use Rattle.fitness.proofs.Fit.{fit-timers, fit_made}

-- A timer may run where its row does not say that it never does.
abbrev may : Runs → Bool
may always = true
may optionally = true
may never = false

-- The timers that may run in a state.
abbrev allowed : Fitness → State → Timers
allowed d s = record {
  mmest = may (when_runs MmEst s d.timers);
  term = may (when_runs Term s d.timers);
  connreq = may (when_runs ConnReq s d.timers);
  nochannel = may (when_runs NoChannel s d.timers);
  pres = may (when_runs Pres s d.timers);
}

-- The timers where a pending termination request is sent.
abbrev pub request_timers : Timers → Timers
request_timers t = with_timer (Some Term) true (with_timer (Some MmEst) false t)

-- In a state in which a termination request may be pending T_term does not run and nothing is remembered, and U5 is a state.
abbrev may_pend : Fitness → State → Bool
may_pend d s = among U5 d.states && (not (among s d.remembering) && of_timers (λ t. not (timers_fit_by d s t) || not (is_on Term t)))

-- It can be sent from there: the state can be remembered, T_term alone runs then, and whoever chose the value may have.
abbrev may_send : Fitness → State → Bool
may_send d s =
    remembered_fit_by d U5 (remembering s)
    && (of_timers (λ t. not (timers_fit_by d s t) || (timers_fit_by d U5 (request_timers t) && eqb (running_among (request_timers t)) (timer_number Term)))
    && of_choosers (λ c. not (chooser_fit_by d s Nothing c) || chooser_fit_by d U5 (remembering s) c))

abbrev same_bool : Bool → Bool → Bool
same_bool a b = cond a b (not b)

-- U0 is a state. In each state at most one timer may run; none must in U0, where nothing is remembered and nothing of a group call is kept; and entering a state, from
-- whatever parameters, gives consistent ones. Where a termination request may be pending it can be sent as soon as COMM is true; where a value may be awaited entering
-- keeps ORIG.
pub record Sound (d : Fitness) : Type 0 where
  pub home : among U0 d.states ≡ true
  pub one-timer : in_states (λ s. leb (how_many (allowed d s)) 1) ≡ true
  pub quiet : timers_fit_by d U0 no_timers ≡ true
  pub blank : remembered_fit_by d U0 Nothing ≡ true
  pub still : talk_fit_by d cleared ≡ true
  pub entered : in_states (λ s. of_parameters (λ p. consistent_by d s (entering s p))) ≡ true
  pub pended : in_states (λ s. not (among s d.requesting) || may_pend d s) ≡ true
  pub sendable : in_states (λ s. not (among s d.requesting) || of_parameters (λ p. not (p.comm && consistent_by d s p) || may_send d s)) ≡ true
  pub originating : in_states (λ s. not (among s d.awaiting) || of_parameters (λ p. same_bool (entering s p).orig p.orig)) ≡ true

-- A timer that runs may run.
obeyed : (r : Runs) (on : Bool) → obeys r on ≡ true → (not on || may r) ≡ true
obeyed always true e = refl
obeyed always false e = refl
obeyed optionally true e = refl
obeyed optionally false e = refl
obeyed never true e = e
obeyed never false e = refl

fit-within : (d : Fitness) (s : State) (t : Timers) → timers_fit_by d s t ≡ true → within t (allowed d s) ≡ true
unfolding timers_fit_by
fit-within d s t e =
    let mmest = when_runs MmEst s d.timers in
    let term = when_runs Term s d.timers in
    let connreq = when_runs ConnReq s d.timers in
    let nochannel = when_runs NoChannel s d.timers in
    let pres = when_runs Pres s d.timers in
    let e2 = and_right (obeys mmest t.mmest) _ e in
    let e3 = and_right (obeys term t.term) _ e2 in
    let e4 = and_right (obeys connreq t.connreq) _ e3 in
    and_both _ _ (obeyed mmest t.mmest (and_left (obeys mmest t.mmest) _ e))
    (and_both _ _ (obeyed term t.term (and_left (obeys term t.term) _ e2))
    (and_both _ _ (obeyed connreq t.connreq (and_left (obeys connreq t.connreq) _ e3))
    (and_both _ _ (obeyed nochannel t.nochannel (and_left (obeys nochannel t.nochannel) _ e4))
    (obeyed pres t.pres (and_right (obeys nochannel t.nochannel) _ e4)))))

module _ (d : Fitness) (sound : Sound d) where
  few : (x : Context) → fit_by d x ≡ true → leb (how_many x.timers) 1 ≡ true
  few x fit =
      few-within (allowed d x.state) x.timers (fit-within d x.state x.timers (fit-timers d x fit))
      (at_state (λ s. leb (how_many (allowed d s)) 1) sound.one-timer x.state)

  -- At most one timer runs in a fit context.
  pub one-runs : (x : Context) → fit_by d x ≡ true → how_many x.timers ≤ 1
  one-runs x fit = leb-true _ _ (few x fit)

  -- So the number of the timer that runs says which timers run.
  pub runs-alone : (x : Context) → fit_by d x ≡ true → x.timers ≡ alone (runs x)
  runs-alone x fit = few-alone x.timers (few x fit)

  -- The parameters with which a state is entered are consistent with it.
  pub entering-consistent : (s : State) (p : Parameters) → consistent_by d s (entering s p) ≡ true
  entering-consistent s p =
      at_parameters (λ q. consistent_by d s (entering s q)) (at_state (λ u. of_parameters (λ q. consistent_by d u (entering u q))) sound.entered s) p

  -- The cleared context is fit.
  pub cleared_sound : fit_by d cleared ≡ true
  unfolding cleared entering start_row set_row is_cleared
  cleared_sound = fit_made d cleared sound.home (entering-consistent U0 cleared.parameters) refl refl sound.quiet sound.blank sound.still

  -- ---- what may be pending

  module _ (s : State) (requests : among s d.requesting ≡ true) where
    pends : may_pend d s ≡ true
    pends = if_so (among s d.requesting) _ (at_state (λ s. not (among s d.requesting) || may_pend d s) sound.pended s) requests

    pub waits_in_u5 : among U5 d.states ≡ true
    waits_in_u5 = and_left (among U5 d.states) _ pends

    pub remembers_none : among s d.remembering ≡ false
    remembers_none = not-true _ (and_left (not (among s d.remembering)) _ (and_right (among U5 d.states) _ pends))

    pub no_term : (t : Timers) → timers_fit_by d s t ≡ true → is_on Term t ≡ false
    no_term t fits =
        not-true _
        (if_so (timers_fit_by d s t) _
        (at_timers (λ t. not (timers_fit_by d s t) || not (is_on Term t)) (and_right (not (among s d.remembering)) _ (and_right (among U5 d.states) _ pends)) t) fits)

    module _ (p : Parameters) (speaks : p.comm ≡ true) (consistent : consistent_by d s p ≡ true) where
      sends : may_send d s ≡ true
      sends =
          if_so (p.comm && consistent_by d s p) _
          (at_parameters (λ p. not (p.comm && consistent_by d s p) || may_send d s)
          (if_so (among s d.requesting) _
          (at_state (λ s. not (among s d.requesting) || of_parameters (λ p. not (p.comm && consistent_by d s p) || may_send d s)) sound.sendable s) requests) p)
          (and_both _ _ speaks consistent)

      pub can_be_remembered : remembered_fit_by d U5 (remembering s) ≡ true
      can_be_remembered = and_left (remembered_fit_by d U5 (remembering s)) _ sends

      module _ (t : Timers) (fits : timers_fit_by d s t ≡ true) where
        timed : (timers_fit_by d U5 (request_timers t) && eqb (running_among (request_timers t)) (timer_number Term)) ≡ true
        timed =
            if_so (timers_fit_by d s t) _
            (at_timers (λ t. not (timers_fit_by d s t) || (timers_fit_by d U5 (request_timers t) && eqb (running_among (request_timers t)) (timer_number Term)))
            (and_left (of_timers (λ t. not (timers_fit_by d s t) || (timers_fit_by d U5 (request_timers t) && eqb (running_among (request_timers t)) (timer_number Term)))) _
            (and_right (remembered_fit_by d U5 (remembering s)) _ sends)) t) fits

        pub request_timers-fit : timers_fit_by d U5 (request_timers t) ≡ true
        request_timers-fit = and_left (timers_fit_by d U5 (request_timers t)) _ timed

        pub term_runs_lem : eqb (running_among (request_timers t)) (timer_number Term) ≡ true
        term_runs_lem = and_right (timers_fit_by d U5 (request_timers t)) _ timed

      pub chooser_waits : (c : Chooser) → chooser_fit_by d s Nothing c ≡ true → chooser_fit_by d U5 (remembering s) c ≡ true
      chooser_waits c fits =
          if_so (chooser_fit_by d s Nothing c) _
          (at_chooser (λ c. not (chooser_fit_by d s Nothing c) || chooser_fit_by d U5 (remembering s) c)
          (and_right (of_timers (λ t. not (timers_fit_by d s t) || (timers_fit_by d U5 (request_timers t) && eqb (running_among (request_timers t)) (timer_number Term)))) _
          (and_right (remembered_fit_by d U5 (remembering s)) _ sends)) c) fits

  same_bool_lem : (a b : Bool) → same_bool a b ≡ true → a ≡ b
  same_bool_lem true true e = refl
  same_bool_lem true false e = impossible e
  same_bool_lem false true e = impossible e
  same_bool_lem false false e = refl

  -- Where a value may be awaited, entering keeps ORIG.
  pub orig_kept : (s : State) (p : Parameters) → among s d.awaiting ≡ true → (entering s p).orig ≡ p.orig
  orig_kept s p awaits =
      same_bool_lem _ _
      (at_parameters (λ p. same_bool (entering s p).orig p.orig)
      (if_so (among s d.awaiting) _
      (at_state (λ s. not (among s d.awaiting) || of_parameters (λ p. same_bool (entering s p).orig p.orig)) sound.originating s) awaits) p)
