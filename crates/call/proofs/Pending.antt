-- What was pending is sent: a context that is fit but for what COMM or ORIG, now true, has made due is fit behind that.
use mathlib.Core.Path.{◌≡◌, refl, sym, subst}
use mathlib.Core.Bool.{Bool, true, false, not, ◌&&◌, ◌||◌}
use lib.Dec.{leb}
use borrow.Author.Tests.{not-true}
use Rattle.octets.proofs.Choice.{at_cond, never}
use Rattle.codes.specs.declared.state.State.TheVariants.{U0, U5}
use Rattle.context.specs.declared.Context.{Context}
use Rattle.context.specs.declared.Remembered.TheVariants.{Nothing}
use Rattle.context.specs.Context.{cleared}
use Rattle.context.specs.Remembered.{is_something}
use Rattle.context.specs.States.{same, among}
use Rattle.context.proofs.Whole.{and_left, and_right, and_both, if_so}
use Rattle.fitness.specs.Fitness.{Fitness, consistent_by, timers_fit_by, remembered_fit_by, chooser_fit_by, pending_fit_by, talk_fit_by, fit_by}
use Rattle.fitness.proofs.Fit.{fit_made, nothing_remembered}
use Rattle.fitness.proofs.Sound.{Sound, entering-consistent, waits_in_u5, remembers_none, can_be_remembered, request_timers-fit, chooser_waits}
use Rattle.call.specs.Talk.{sent_in, answered, requested, flushed}

-- ---- tests, bit by bit

-- Not sent, a request is where it may be, and not both are true.
request_waits : (comm orig pends there : Bool) → (comm && (orig && pends)) ≡ false → (not pends || there) ≡ true → (not pends || (there && not (orig && comm))) ≡ true
request_waits comm orig false there n e = refl
request_waits true true true there n e = never (sym n)
request_waits true false true there n e = and_both _ _ e refl
request_waits false true true there n e = and_both _ _ e refl
request_waits false false true there n e = and_both _ _ e refl

-- A STATUS that is still pending waits for COMM.
status_waits : (comm pends there : Bool) → (not pends || there) ≡ true → (not (pends && not (comm && pends)) || (there && not comm)) ≡ true
status_waits comm false there e = refl
status_waits true true there e = refl
status_waits false true there e = and_both _ _ e refl

nothing_left : (pends : Bool) → (pends && not (true && pends)) ≡ false
nothing_left true = refl
nothing_left false = refl

-- Where ORIG is true, no value is awaited.
unawaited : (awaits there orig : Bool) → orig ≡ true → (not awaits || (there && not orig)) ≡ true → awaits ≡ false
unawaited true there orig o e = never (sym (rw o at (not-true orig (and_right there _ e))))
unawaited false there orig o e = refl

module _ (d : Fitness) (sound : Sound d) where
  -- Fit, but for what is now due.
  pub record Nearly (y : Context) : Type 0 where
    pub called : same y.state U0 ≡ false
    pub known : among y.state d.states ≡ true
    pub consistent : consistent_by d y.state y.parameters ≡ true
    pub small : leb y.value 6 ≡ true
    pub timed : timers_fit_by d y.state y.timers ≡ true
    pub minded : remembered_fit_by d y.state y.remembered ≡ true
    pub chosen : chooser_fit_by d y.state y.remembered y.talk.chooser ≡ true
    pub requests : (not y.talk.termination || among y.state d.requesting) ≡ true
    pub asks : (not y.talk.status || among y.state d.asked) ≡ true
    pub awaits : (not y.talk.awaiting || (among y.state d.awaiting && not y.parameters.orig)) ≡ true

  not_u0 : (t : Bool) (c : Bool) → t ≡ false → (not t || c) ≡ true
  not_u0 t c e = rw e

  -- The parts of a pending request.
  module _ (y : Context) (n : Nearly y) where
    -- Nothing is due but, perhaps, a STATUS.
    answered-fit : (sent_in y).request ≡ false → fit_by d (answered (sent_in y).status y) ≡ true
    unfolding talk_fit_by pending_fit_by sent_in
    answered-fit none =
        fit_made d (answered (sent_in y).status y) n.known n.consistent n.small (not_u0 (same y.state U0) _ n.called) n.timed n.minded
        (and_both _ _ n.chosen
        (and_both _ _ (request_waits y.parameters.comm y.parameters.orig y.talk.termination (among y.state d.requesting) none n.requests)
        (and_both _ _ (status_waits y.parameters.comm y.talk.status (among y.state d.asked) n.asks) n.awaits)))

    module _ (due : (sent_in y).request ≡ true) where
      speaks : y.parameters.comm ≡ true
      unfolding sent_in
      speaks = and_left y.parameters.comm _ due

      owns : y.parameters.orig ≡ true
      unfolding sent_in
      owns = and_left y.parameters.orig _ (and_right y.parameters.comm _ due)

      pends : y.talk.termination ≡ true
      unfolding sent_in
      pends = and_right y.parameters.orig _ (and_right y.parameters.comm _ due)

      pub requesting : among y.state d.requesting ≡ true
      requesting = if_so y.talk.termination _ n.requests pends

      none_remembered : y.remembered ≡ Nothing
      unfolding remembered_fit_by
      none_remembered =
          let empty : not (is_something y.remembered) ≡ true = rw (remembers_none d sound y.state requesting) at n.minded in
          nothing_remembered y.remembered (not-true _ empty)

      chosen_alone : chooser_fit_by d y.state Nothing y.talk.chooser ≡ true
      chosen_alone = subst (λ r. chooser_fit_by d y.state r y.talk.chooser ≡ true) none_remembered n.chosen

      -- The state is left for U5, where the request is remembered and T_term runs.
      requested-fit : fit_by d (requested (answered (sent_in y).status y)) ≡ true
      unfolding talk_fit_by pending_fit_by sent_in
      requested-fit =
          fit_made d (requested (answered (sent_in y).status y)) (waits_in_u5 d sound y.state requesting) (entering-consistent d sound U5 y.parameters) n.small refl
          (request_timers-fit d sound y.state requesting y.parameters speaks n.consistent y.timers n.timed)
          (can_be_remembered d sound y.state requesting y.parameters speaks n.consistent)
          (and_both _ _ (chooser_waits d sound y.state requesting y.parameters speaks n.consistent y.talk.chooser chosen_alone)
          (rw (speaks, nothing_left y.talk.status, unawaited y.talk.awaiting (among y.state d.awaiting) y.parameters.orig owns n.awaits)))

    -- What was pending is sent, and the context is fit.
    pub flushed-fit : fit_by d (flushed y) ≡ true
    unfolding flushed
    flushed-fit = at_cond (λ z. fit_by d z ≡ true) (sent_in y).request _ _ requested-fit answered-fit

  -- In U0 nothing is due.
  pub cleared-flushed : flushed cleared ≡ cleared
  unfolding flushed sent_in cleared
  cleared-flushed = refl
