-- A step by sound rows keeps a context fit, and clears it where U0 is entered; an inconsistent SET PARAMETER is ignored.
use Prim.Native.Nat.{ℕ}
use mathlib.Core.Path.{◌≡◌, refl, sym, ap, subst, ◌∙◌}
use mathlib.Core.List.{List}
use mathlib.Core.Bool.{Bool, true, false, not, ◌&&◌, ◌||◌}
use lib.Dec.{eqb, leb}
use borrow.Author.Tests.{not-true}
use Rattle.octets.proofs.Choice.{at_cond, never}
use Rattle.codes.specs.declared.state.State.{State}
use Rattle.codes.specs.declared.state.State.TheVariants.{U0, U0p, U1, U2, U3, U4, U5, U6, U2sl, U2wr, U2r, U2ws, U2sr, U2nc}
use Rattle.codes.specs.declared.attributes.Parameters.{Parameters}
use Rattle.codes.specs.Attributes.{parameters_of}
use Rattle.message.specs.declared.Message.{Message}
use Rattle.message.specs.declared.Message.TheVariants.{
  Connect,
  GetStatus,
  ImmediateSetup,
  SetParameter,
  Setup,
  Status,
  Termination,
  TerminationReject,
  TerminationRequest,
}
use Rattle.context.specs.declared.Context.{Context}
use Rattle.context.specs.declared.Talk.{Talk}
use Rattle.context.specs.States.{same, among}
use Rattle.context.specs.Context.{entering, cleared}
use Rattle.fitness.specs.Fitness.{Fitness, consistent_by, timers_fit_by, remembered_fit_by, chooser_fit_by, pending_fit_by, talk_fit_by, fit_by}
use Rattle.version.specs.declared.Table.{Table}
use Rattle.version.specs.Version.{greatest_actions}
use Rattle.fitness.specs.Tables.{fitness_of, consistent, fit_of}
use Rattle.context.proofs.States.{same-state}
use Rattle.context.specs.declared.Chooser.{Chooser}
use Rattle.context.proofs.Whole.{and_left, and_right, and_both, if_so, of_choosers, at_chooser}
use Rattle.fitness.proofs.Fit.{fit-known, fit-consistent, fit-value, fit-timers, fit_remembered, fit_chooser, fit-pending, fit_made, fit_u0}
use Rattle.fitness.proofs.Sound.{Sound as SoundFitness, entering-consistent, orig_kept, cleared_sound}
use Rattle.transitions.specs.declared.Stores.{Stores}
use Rattle.transitions.specs.declared.Stores.TheVariants.{Nothing, ValueAndReference, ItsReference, ItsReferenceAndOriginator}
use Rattle.transitions.specs.declared.Note.{Note}
use Rattle.transitions.specs.declared.Taken.{Taken}
use Rattle.transitions.specs.declared.Decision.{Decision}
use Rattle.transitions.specs.declared.Decision.TheVariants.{Take, NoStep, Ignore, Report, TellStatus, SetParameters}
use Rattle.transitions.specs.Table.{Row, step_table, timers_after, remembered_after}
use Rattle.transitions.proofs.Sound.{pends_termination, pends_status, chooser_after, names_originator, Sound, rows_sound}
use Rattle.transitions.proofs.Decided.{OfTaken, KeepsTalk, Keeps, Heard, decided_talk, decided_keeps, decided_heard}
use Rattle.call.specs.declared.Due.{Due}
use Rattle.call.specs.declared.Due.TheVariants.{Steps, Ignored, Reported, Refused}
use Rattle.call.specs.declared.Event.{Event}
use Rattle.call.specs.declared.Event.TheVariants.{Received}
use Rattle.call.specs.declared.Reason.TheVariants.{CommFalse}
use Rattle.call.specs.declared.Seen.{Seen}
use Rattle.call.specs.declared.Settled.{Settled}
use Rattle.call.specs.Events.{seen_message, seen_of}
use Rattle.call.specs.Step.{
  parameters_after,
  value_after,
  reference_after,
  afterwards,
  ignored,
  no_step,
  reported_with,
  status_told,
  with_parameters,
  parameters_set,
  carried_out,
  step_by,
}
use Rattle.call.specs.Talk.{noted, with_value, adopted, originating, awaiting_after, sent_in, flushed}
use Rattle.call.specs.Due.{settled_by, settled}
use Rattle.call.proofs.Pending.{Nearly, flushed-fit, cleared-flushed}

-- ---- after a row

value-fits : (stores : Stores) (carried kept : ℕ) → leb carried 6 ≡ true → leb kept 6 ≡ true → leb (value_after stores carried kept) 6 ≡ true
unfolding value_after
value-fits Nothing carried kept c k = k
value-fits ValueAndReference carried kept c k = c
value-fits ItsReference carried kept c k = k
value-fits ItsReferenceAndOriginator carried kept c k = k

either_true : (b : Bool) → (b || true) ≡ true
either_true true = refl
either_true false = refl

not_u0 : (t : Bool) (c : Bool) → t ≡ false → (not t || c) ≡ true
not_u0 t c e = rw e

-- Entering U0 clears, whatever the row.
pub enters-cleared : (x : Context) (d : Taken) (e : Seen) → same d.next U0 ≡ true → afterwards x d e ≡ cleared
unfolding afterwards
enters-cleared x d e u = rw u

-- Where the message does not name the originator, ORIG is as it was.
pub unnamed : (stores : Stores) (attributes : ℕ) (p : Parameters) → names_originator stores ≡ false → originating stores attributes p ≡ p
unfolding originating
unnamed Nothing attributes p e = refl
unnamed ValueAndReference attributes p e = refl
unnamed ItsReference attributes p e = refl
unnamed ItsReferenceAndOriginator attributes p e = never (sym e)

-- What is pending after a row was pending, or is noted by it.
pub request_noted : (note : Note) (k : Talk) → (noted note k).termination ≡ true → (k.termination || pends_termination note) ≡ true
unfolding noted
request_noted Note.Nothing k e = rw e
request_noted Note.WeChose k e = rw e
request_noted Note.CellChose k e = rw e
request_noted Note.TerminationPends k e = either_true k.termination
request_noted Note.StatusPends k e = rw e
request_noted Note.TerminationDropped k e = never e

pub status-noted : (note : Note) (k : Talk) → (noted note k).status ≡ true → (k.status || pends_status note) ≡ true
unfolding noted
status-noted Note.Nothing k e = rw e
status-noted Note.WeChose k e = rw e
status-noted Note.CellChose k e = rw e
status-noted Note.TerminationPends k e = rw e
status-noted Note.StatusPends k e = either_true k.status
status-noted Note.TerminationDropped k e = rw e

awaiting-noted : (note : Note) (k : Talk) → (noted note k).awaiting ≡ k.awaiting
unfolding noted
awaiting-noted Note.Nothing k = refl
awaiting-noted Note.WeChose k = refl
awaiting-noted Note.CellChose k = refl
awaiting-noted Note.TerminationPends k = refl
awaiting-noted Note.StatusPends k = refl
awaiting-noted Note.TerminationDropped k = refl

pub chooser_noted : (note : Note) (k : Talk) → (noted note k).chooser ≡ chooser_after note k.chooser
unfolding noted
chooser_noted Note.Nothing k = refl
chooser_noted Note.WeChose k = refl
chooser_noted Note.CellChose k = refl
chooser_noted Note.TerminationPends k = refl
chooser_noted Note.StatusPends k = refl
chooser_noted Note.TerminationDropped k = refl

-- The context after a row that does not enter U0.
abbrev pub after : Context → Taken → Seen → Context
after x d e =
    let p : Parameters = parameters_after x.state (originating d.stores e.attributes x.parameters) d.next in
    record {
      state = d.next;
      parameters = p;
      timers = timers_after d x.timers;
      value = value_after d.stores e.value x.value;
      reference = reference_after d.stores e.reference x.reference;
      remembered = remembered_after d.memory x.state x.remembered;
      talk = awaiting_after x.state d.next p (noted d.note x.talk);
    }

first-false : (a b : Bool) → (a && b) ≡ false → b ≡ true → a ≡ false
first-false true b e f = never (sym e ∙ f)
first-false false b e f = refl

-- The value that what is due carries is at most 6.
abbrev pub DueFit : Due → Type 0
DueFit (Steps event) = leb (seen_of event).value 6 ≡ true
DueFit (Ignored reason) = Unit {0}
DueFit (Reported cause) = Unit {0}
DueFit Refused = Unit {0}

-- ---- after a step

abbrev pub Fit : Table → Settled → Type 0
Fit table r = fit_of table r.context ≡ true

-- What a row keeps of a group call, part by part.
pub record Parts (fitness : Fitness) (x : Context) (d : Taken) : Type 0 where
  pub known : among d.next fitness.states ≡ true
  pub pending-there : (not (pends_termination d.note) || among x.state fitness.requesting) ≡ true
  pub requests : (not (among x.state fitness.requesting) || among d.next fitness.requesting) ≡ true
  pub asks : (not (among x.state fitness.asked || pends_status d.note) || among d.next fitness.asked) ≡ true
  pub awaits : (not (among x.state fitness.awaiting) || (among d.next fitness.awaiting && not (names_originator d.stores))) ≡ true
  pub waits_to-send : (not (same d.next U2ws) || among d.next fitness.awaiting) ≡ true
  pub names : (not (names_originator d.stores) || not (same x.state d.next)) ≡ true
  pub chooses : (c : Chooser) → chooser_fit_by fitness x.state x.remembered c ≡ true
      → chooser_fit_by fitness d.next (remembered_after d.memory x.state x.remembered) (chooser_after d.note c) ≡ true

pub parts : (fitness : Fitness) (x : Context) (d : Taken) → remembered_fit_by fitness x.state x.remembered ≡ true → KeepsTalk fitness x d → same d.next U0 ≡ false
    → Parts fitness x d
parts fitness x d minded talks stays =
    let Chooses : Chooser → Bool
    = λ c. not (chooser_fit_by fitness x.state x.remembered c) || chooser_fit_by fitness d.next (remembered_after d.memory x.state x.remembered) (chooser_after d.note c) in
    let k0 : (not (remembered_fit_by fitness x.state x.remembered)
    || (among d.next fitness.states
    && ((not (pends_termination d.note) || among x.state fitness.requesting)
    && ((not (among x.state fitness.requesting) || among d.next fitness.requesting)
    && ((not (among x.state fitness.asked || pends_status d.note) || among d.next fitness.asked)
    && ((not (among x.state fitness.awaiting) || (among d.next fitness.awaiting && not (names_originator d.stores)))
    && ((not (same d.next U2ws) || among d.next fitness.awaiting)
    && ((not (names_originator d.stores) || not (same x.state d.next))
    && of_choosers Chooses)))))))) ≡ true
    = rw stays at talks in
    let k1 = if_so (remembered_fit_by fitness x.state x.remembered) _ k0 minded in
    let k2 = and_right (among d.next fitness.states) _ k1 in
    let k3 = and_right (not (pends_termination d.note) || among x.state fitness.requesting) _ k2 in
    let k4 = and_right (not (among x.state fitness.requesting) || among d.next fitness.requesting) _ k3 in
    let k5 = and_right (not (among x.state fitness.asked || pends_status d.note) || among d.next fitness.asked) _ k4 in
    let k6 = and_right (not (among x.state fitness.awaiting) || (among d.next fitness.awaiting && not (names_originator d.stores))) _ k5 in
    let k7 = and_right (not (same d.next U2ws) || among d.next fitness.awaiting) _ k6 in
    record {
      known = and_left (among d.next fitness.states) _ k1;
      pending-there = and_left (not (pends_termination d.note) || among x.state fitness.requesting) _ k2;
      requests = and_left (not (among x.state fitness.requesting) || among d.next fitness.requesting) _ k3;
      asks = and_left (not (among x.state fitness.asked || pends_status d.note) || among d.next fitness.asked) _ k4;
      awaits = and_left (not (among x.state fitness.awaiting) || (among d.next fitness.awaiting && not (names_originator d.stores))) _ k5;
      waits_to-send = and_left (not (same d.next U2ws) || among d.next fitness.awaiting) _ k6;
      names = and_left (not (names_originator d.stores) || not (same x.state d.next)) _ k7;
      chooses = λ c e. if_so _ _ (at_chooser Chooses (and_right (not (names_originator d.stores) || not (same x.state d.next)) _ k7) c) e;
    }

placed : (b c : Bool) → (b ≡ true → c ≡ true) → (not b || c) ≡ true
placed true c f = f refl
placed false c f = refl

one_of : (a b c : Bool) → (a || b) ≡ true → (a ≡ true → c ≡ true) → (b ≡ true → c ≡ true) → c ≡ true
one_of true b c e f g = f refl
one_of false b c e f g = g e

or_left : (a b : Bool) → a ≡ true → (a || b) ≡ true
or_left a b e = rw e

or_right : (a b : Bool) → b ≡ true → (a || b) ≡ true
or_right true b e = refl
or_right false b e = e

unless : (a b : Bool) → (not a || not b) ≡ true → b ≡ true → a ≡ false
unless true b e f = never (sym (not-true b e) ∙ f)
unless false b e f = refl

module _ (fitness : Fitness) (good : SoundFitness fitness) (x : Context) (fit : fit_by fitness x ≡ true) where
  -- What is pending in a fit context is so where it may be.
  first_part : (not x.talk.termination || (among x.state fitness.requesting && not (x.parameters.orig && x.parameters.comm))) ≡ true
  unfolding pending_fit_by
  first_part = and_left (not x.talk.termination || (among x.state fitness.requesting && not (x.parameters.orig && x.parameters.comm))) _ (fit-pending fitness x fit)

  later : ((not x.talk.status || (among x.state fitness.asked && not x.parameters.comm))
      && (not x.talk.awaiting || (among x.state fitness.awaiting && not x.parameters.orig))) ≡ true
  unfolding pending_fit_by
  later = and_right (not x.talk.termination || (among x.state fitness.requesting && not (x.parameters.orig && x.parameters.comm))) _ (fit-pending fitness x fit)

  second-part : (not x.talk.status || (among x.state fitness.asked && not x.parameters.comm)) ≡ true
  second-part = and_left (not x.talk.status || (among x.state fitness.asked && not x.parameters.comm)) _ later

  third_part : (not x.talk.awaiting || (among x.state fitness.awaiting && not x.parameters.orig)) ≡ true
  third_part = and_right (not x.talk.status || (among x.state fitness.asked && not x.parameters.comm)) _ later

  pub requesting-there : x.talk.termination ≡ true → among x.state fitness.requesting ≡ true
  requesting-there e = and_left (among x.state fitness.requesting) _ (if_so x.talk.termination _ first_part e)

  pub asked-there : x.talk.status ≡ true → among x.state fitness.asked ≡ true
  asked-there e = and_left (among x.state fitness.asked) _ (if_so x.talk.status _ second-part e)

  pub awaiting-there : x.talk.awaiting ≡ true → (among x.state fitness.awaiting && not x.parameters.orig) ≡ true
  awaiting-there e = if_so x.talk.awaiting _ third_part e

  -- ---- where nothing more is due: the same context, or one whose value has been adopted

  pub nearly_fit : same x.state U0 ≡ false → Nearly fitness good x
  nearly_fit called = record {
    called = called;
    known = fit-known fitness x fit;
    consistent = fit-consistent fitness x fit;
    small = fit-value fitness x fit;
    timed = fit-timers fitness x fit;
    minded = fit_remembered fitness x fit;
    chosen = fit_chooser fitness x fit;
    requests = placed _ _ requesting-there;
    asks = placed _ _ asked-there;
    awaits = third_part;
  }

  -- Nothing that was pending is due in a fit context.
  pub none_due : (sent_in x).request ≡ false
  unfolding sent_in
  none_due = go x.parameters.comm x.parameters.orig x.talk.termination first_part
    where
      go : (comm orig pends : Bool) → (not pends || (among x.state fitness.requesting && not (orig && comm))) ≡ true → (comm && (orig && pends)) ≡ false
      go false orig pends e = refl
      go true false pends e = refl
      go true true false e = refl
      go true true true e = never (and_right (among x.state fitness.requesting) _ e)

  pub none-asked : (sent_in x).status ≡ false
  unfolding sent_in
  none-asked = go x.parameters.comm x.talk.status second-part
    where
      go : (comm pends : Bool) → (not pends || (among x.state fitness.asked && not comm)) ≡ true → (comm && pends) ≡ false
      go false pends e = refl
      go true false e = refl
      go true true e = never (and_right (among x.state fitness.asked) _ e)

  pub fit-flushed : fit_by fitness (flushed x) ≡ true
  fit-flushed = go (same x.state U0) refl
    where
      go : (b : Bool) → same x.state U0 ≡ b → fit_by fitness (flushed x) ≡ true
      go true e =
          subst (λ y. fit_by fitness (flushed y) ≡ true) (sym (fit_u0 fitness x fit (same-state x.state U0 e)))
          (subst (λ y. fit_by fitness y ≡ true) (sym (cleared-flushed fitness good)) (cleared_sound fitness good))
      go false e = flushed-fit fitness good x (nearly_fit e)

  -- No value is awaited in U0.
  awaits_outside_u0 : x.talk.awaiting ≡ true → same x.state U0 ≡ false
  unfolding cleared
  awaits_outside_u0 a = go (same x.state U0) refl
    where
      go : (b : Bool) → same x.state U0 ≡ b → same x.state U0 ≡ false
      go true e = never (sym (ap (λ (y : Context). y.talk.awaiting) (fit_u0 fitness x fit (same-state x.state U0 e))) ∙ a)
      go false e = e

  pub adopted-fit : (value : ℕ) → leb value 6 ≡ true → x.talk.awaiting ≡ true → fit_by fitness (with_value value x) ≡ true
  unfolding talk_fit_by pending_fit_by
  adopted-fit value small a =
      fit_made fitness (with_value value x) (fit-known fitness x fit) (fit-consistent fitness x fit) small (not_u0 (same x.state U0) _ (awaits_outside_u0 a))
      (fit-timers fitness x fit) (fit_remembered fitness x fit) (and_both _ _ (fit_chooser fitness x fit) (and_both _ _ first_part (and_both _ _ second-part refl)))

  -- Parameters that are set are consistent, and what that makes due is sent. A message that sets them has given the value that was awaited.
  pub set-fit : (p : Parameters) → consistent_by fitness x.state p ≡ true → same x.state U0 ≡ false → x.talk.awaiting ≡ false → fit_by fitness (flushed (with_parameters p x)) ≡ true
  set-fit p q called given =
      flushed-fit fitness good (with_parameters p x)
      (record {
        called = called;
        known = fit-known fitness x fit;
        consistent = q;
        small = fit-value fitness x fit;
        timed = fit-timers fitness x fit;
        minded = fit_remembered fitness x fit;
        chosen = fit_chooser fitness x fit;
        requests = placed _ _ requesting-there;
        asks = placed _ _ asked-there;
        awaits = rw given;
      })

  -- ---- after a row

  module _ (d : Taken) (e : Seen) (keeps : Keeps fitness x (Take d)) (talks : KeepsTalk fitness x d) (stays : same d.next U0 ≡ false) where
    held : Parts fitness x d
    held = parts fitness x d (fit_remembered fitness x fit) talks stays

    abbrev named : Parameters
    named = originating d.stores e.attributes x.parameters

    abbrev entered : Parameters
    entered = parameters_after x.state named d.next

    pub consistent-after : consistent_by fitness d.next entered ≡ true
    unfolding parameters_after
    consistent-after =
        at_cond (λ p. consistent_by fitness d.next p ≡ true) (same x.state d.next) named (entering d.next named)
        (λ q. subst (λ p. consistent_by fitness d.next p ≡ true) (sym (unnamed d.stores e.attributes x.parameters (unless (names_originator d.stores) _ held.names q)))
        (subst (λ s. consistent_by fitness s x.parameters ≡ true) (same-state x.state d.next q) (fit-consistent fitness x fit)))
        (λ q. entering-consistent fitness good d.next named)

    pub timers-and_memory : (timers_fit_by fitness d.next (timers_after d x.timers) && remembered_fit_by fitness d.next (remembered_after d.memory x.state x.remembered)) ≡ true
    timers-and_memory =
        let k : (not (timers_fit_by fitness x.state x.timers && remembered_fit_by fitness x.state x.remembered)
        || (timers_fit_by fitness d.next (timers_after d x.timers) && remembered_fit_by fitness d.next (remembered_after d.memory x.state x.remembered))) ≡ true
        = rw stays at keeps in
        if_so _ _ k (and_both _ _ (fit-timers fitness x fit) (fit_remembered fitness x fit))

    orig_after : among d.next fitness.awaiting ≡ true → named ≡ x.parameters → entered.orig ≡ x.parameters.orig
    unfolding parameters_after
    orig_after a q =
        at_cond (λ p. p.orig ≡ x.parameters.orig) (same x.state d.next) named (entering d.next named) (λ u. ap (λ (p : Parameters). p.orig) q)
        (λ u. orig_kept fitness good d.next named a ∙ ap (λ (p : Parameters). p.orig) q)

    -- A value that was awaited is so still, where it may be.
    still_awaits : x.talk.awaiting ≡ true → (among d.next fitness.awaiting && not entered.orig) ≡ true
    still_awaits a =
        let there = awaiting-there a in
        let n = if_so (among x.state fitness.awaiting) _ held.awaits (and_left (among x.state fitness.awaiting) _ there) in
        let q = unnamed d.stores e.attributes x.parameters (not-true _ (and_right (among d.next fitness.awaiting) _ n)) in
        let m = and_left (among d.next fitness.awaiting) _ n in
        and_both _ _ m (subst (λ b. not b ≡ true) (sym (orig_after m q)) (and_right (among x.state fitness.awaiting) _ there))

    -- One that is awaited from now on is so in U2ws, with ORIG false.
    awaits_now : (same d.next U2ws && (not (same x.state d.next) && not entered.orig)) ≡ true → (among d.next fitness.awaiting && not entered.orig) ≡ true
    awaits_now q =
        and_both _ _ (if_so (same d.next U2ws) _ held.waits_to-send (and_left (same d.next U2ws) _ q))
        (and_right (not (same x.state d.next)) _ (and_right (same d.next U2ws) _ q))

    awaits_after : (not (awaiting_after x.state d.next entered (noted d.note x.talk)).awaiting || (among d.next fitness.awaiting && not entered.orig)) ≡ true
    unfolding awaiting_after
    awaits_after =
        placed _ _
        (λ q. one_of (noted d.note x.talk).awaiting _ _ q (λ a. still_awaits (sym (awaiting-noted d.note x.talk) ∙ a)) awaits_now)

    pub requests_before : (noted d.note x.talk).termination ≡ true → among x.state fitness.requesting ≡ true
    requests_before q =
        one_of x.talk.termination _ _ (request_noted d.note x.talk q) requesting-there (λ a. if_so (pends_termination d.note) _ held.pending-there a)

    pub requests_after : (noted d.note x.talk).termination ≡ true → among d.next fitness.requesting ≡ true
    requests_after q = if_so _ _ held.requests (requests_before q)

    asks-after : (noted d.note x.talk).status ≡ true → among d.next fitness.asked ≡ true
    asks-after q =
        one_of x.talk.status _ _ (status-noted d.note x.talk q) (λ a. if_so _ _ held.asks (or_left (among x.state fitness.asked) _ (asked-there a)))
        (λ a. if_so _ _ held.asks (or_right (among x.state fitness.asked) _ a))

    nearly_after : leb e.value 6 ≡ true → Nearly fitness good (after x d e)
    unfolding awaiting_after
    nearly_after small = record {
      called = stays;
      known = held.known;
      consistent = consistent-after;
      small = value-fits d.stores e.value x.value small (fit-value fitness x fit);
      timed = and_left (timers_fit_by fitness d.next (timers_after d x.timers)) _ timers-and_memory;
      minded = and_right (timers_fit_by fitness d.next (timers_after d x.timers)) _ timers-and_memory;
      chosen = subst (λ c. chooser_fit_by fitness d.next (remembered_after d.memory x.state x.remembered) c ≡ true) (sym (chooser_noted d.note x.talk))
          (held.chooses x.talk.chooser (fit_chooser fitness x fit));
      requests = placed _ _ requests_after;
      asks = placed _ _ asks-after;
      awaits = awaits_after;
    }

  afterwards-fit : (d : Taken) (e : Seen) → Keeps fitness x (Take d) → KeepsTalk fitness x d → leb e.value 6 ≡ true → fit_by fitness (flushed (afterwards x d e)) ≡ true
  unfolding afterwards
  afterwards-fit d e keeps talks small =
      at_cond (λ y. fit_by fitness (flushed y) ≡ true) (same d.next U0) _ _
      (λ u. subst (λ y. fit_by fitness y ≡ true) (sym (cleared-flushed fitness good)) (cleared_sound fitness good))
      (λ u. flushed-fit fitness good (after x d e) (nearly_after d e keeps talks u small))

module _ (fitness : Fitness) (most : ℕ) (table : List Row) (sound : Sound fitness most table) (x : Context) (fit : fit_by fitness x ≡ true) where
  abbrev good : SoundFitness fitness
  good = sound.fitness_sound

  abbrev StepFits : Settled → Type 0
  StepFits r = fit_by fitness r.context ≡ true

  reported_fit : (cause : ℕ) → StepFits (reported_with cause x)
  unfolding reported_with ignored
  reported_fit cause = at_cond StepFits x.parameters.comm _ _ (λ e. fit) (λ e. fit)

  carried-fit : (d : Decision) (e : Seen) → Keeps fitness x d → OfTaken (KeepsTalk fitness x) d → Heard e.number d → leb e.value 6 ≡ true → StepFits (carried_out fitness x d e)
  unfolding carried_out no_step ignored status_told parameters_set adopted
  carried-fit (Take d) e keeps talks hears fits =
      at_cond (λ y. fit_by fitness (flushed (afterwards y d e)) ≡ true) (x.talk.awaiting && eqb e.number 18) (with_value e.value x) x
      (λ q. afterwards-fit fitness good (with_value e.value x) (adopted-fit fitness good x fit e.value fits (and_left x.talk.awaiting _ q)) d e keeps talks fits)
      (λ q. afterwards-fit fitness good x fit d e keeps talks fits)
  carried-fit NoStep e keeps talks hears fits = fit
  carried-fit Ignore e keeps talks hears fits = fit
  carried-fit (Report cause) e keeps talks hears fits = reported_fit cause
  carried-fit TellStatus e keeps talks hears fits = at_cond StepFits x.parameters.comm _ _ (λ q. fit-flushed fitness good x fit) (λ q. fit)
  carried-fit SetParameters e keeps talks hears fits =
      at_cond StepFits (consistent_by fitness x.state (parameters_of e.attributes)) _ _
      (λ q. at_cond (λ y. fit_by fitness (flushed (with_parameters (parameters_of e.attributes) y)) ≡ true) (x.talk.awaiting && eqb e.number 18) (with_value e.value x) x
      (λ a. set-fit fitness good (with_value e.value x) (adopted-fit fitness good x fit e.value fits (and_left x.talk.awaiting _ a)) (parameters_of e.attributes) q keeps refl)
      (λ a. set-fit fitness good x fit (parameters_of e.attributes) q keeps (first-false x.talk.awaiting _ a hears)))
      (λ q. reported_fit 98)

  -- A step by sound rows from a fit context ends in a fit one, where the value that the event carries is at most 6.
  step_by_lem : (event : Event) → leb (seen_of event).value 6 ≡ true → StepFits (step_by fitness table x event)
  unfolding step_by
  step_by_lem event fits =
      carried-fit _ (seen_of event) (decided_keeps fitness most table sound x (seen_of event).number (seen_of event).code) (decided_talk fitness most table sound x (seen_of event).number (seen_of event).code)
      (decided_heard fitness most table sound x (seen_of event).number (seen_of event).code) fits

  -- So does whatever is due.
  pub fit-by : (due : Due) → DueFit due → StepFits (settled_by fitness table x due)
  unfolding settled_by ignored no_step
  fit-by (Steps event) fits = step_by_lem event fits
  fit-by (Ignored reason) fits = fit
  fit-by (Reported cause) fits = reported_fit cause
  fit-by Refused fits = fit

-- By a step table.
pub settled-fit : (table : Table) (x : Context) → fit_of table x ≡ true → (due : Due) → DueFit due → Fit table (settled table x due)
settled-fit table = fit-by (fitness_of table) (greatest_actions table) (step_table table) (rows_sound table)

-- A message carries the value of its transaction.
message-value : (value : ℕ) (m : Message) → (seen_message value m).value ≡ value
unfolding seen_message
message-value value (Connect reference originator) = refl
message-value value (GetStatus identity) = refl
message-value value (ImmediateSetup key classmark identity reference) = refl
message-value value (SetParameter attributes) = refl
message-value value (Setup reference) = refl
message-value value (Status cause state attributes) = refl
message-value value (Termination cause) = refl
message-value value (TerminationReject cause) = refl
message-value value (TerminationRequest reference) = refl

pub received_value : (mode value : ℕ) (m : Message) → leb value 6 ≡ true → leb (seen_of (Received mode value m)).value 6 ≡ true
unfolding seen_of
received_value mode value m small = rw (message-value value m) small

-- Where some parameters are inconsistent with a state, COMM true is.
silent : (table : Table) (s : State) (p q : Parameters) → consistent table s p ≡ false → consistent table s q ≡ true → q.comm ≡ false
unfolding consistent_by fitness_of
silent table U0 p q e f = not-true _ f
silent table U0p p q e f = never (sym e)
silent table U1 p q e f = never (sym e)
silent table U2 p q e f = never (sym e)
silent table U3 p q e f = not-true _ (and_right (not q.orig) _ f)
silent table U4 p q e f = not-true _ (and_right (not q.orig) _ f)
silent table U5 p q e f = never (sym e)
silent table U6 p q e f = not-true _ (and_right (not q.orig) _ f)
silent table U2sl p q e f = never (sym e)
silent table U2wr p q e f = never (sym e)
silent table U2r p q e f = not-true _ f
silent table U2ws p q e f = never (sym e)
silent table U2sr p q e f = never (sym e)
silent table U2nc p q e f = not-true _ f

-- An inconsistent SET PARAMETER is always ignored in a fit context: answer 1, COMM false.
pub inconsistent_ignored : (table : Table) (x y : Context) (attributes : ℕ) → fit_of table x ≡ true → consistent table x.state (parameters_of attributes) ≡ false
    → parameters_set (fitness_of table) attributes x y ≡ ignored CommFalse x
unfolding parameters_set reported_with
inconsistent_ignored table x y attributes fit e =
    let c : x.parameters.comm ≡ false = silent table x.state (parameters_of attributes) x.parameters e (fit-consistent (fitness_of table) x fit) in
    rw (e, c)
