-- What a step sends together. No step sends more than two messages: behind SETUP nothing but a STATUS that was pending, behind IMMEDIATE SETUP, TERMINATION REQUEST and
-- a STATUS of the step's own nothing.
use Prim.Native.Nat.{ℕ}
use mathlib.Core.Path.{◌≡◌, refl, sym, ◌∙◌}
use mathlib.Core.Bool.{Bool, true, false, not, ◌&&◌, ◌||◌}
use lib.Dec.{eqb}
use native.Mathlib.Omega.{arith}
use borrow.Author.Tests.{not-true}
use Rattle.octets.proofs.Choice.{at_cond, never}
use Rattle.codes.specs.declared.state.State.TheVariants.{U0}
use Rattle.codes.specs.Attributes.{parameters_of}
use Rattle.version.specs.declared.Table.{Table}
use Rattle.version.specs.declared.Table.TheVariants.{First, Second, Third, Group}
use Rattle.version.specs.Version.{protocol_of}
use Rattle.context.specs.declared.Context.{Context}
use Rattle.context.specs.Context.{cleared}
use Rattle.context.specs.States.{same, among}
use Rattle.context.specs.Remembered.{returning}
use Rattle.context.proofs.Whole.{and_left, and_right}
use Rattle.fitness.specs.Fitness.{Fitness, consistent_by}
use Rattle.fitness.specs.Tables.{fitness_of, fit_of}
use Rattle.fitness.proofs.Sound.{Sound as SoundFitness}
use Rattle.transitions.specs.declared.Send.{Send}
use Rattle.transitions.specs.declared.Send.TheVariants.{Nothing, ImmediateSetup, Setup, TerminationRequest}
use Rattle.transitions.specs.declared.Taken.{Taken}
use Rattle.transitions.specs.declared.Decision.{Decision}
use Rattle.transitions.specs.declared.Decision.TheVariants.{Take, NoStep, Ignore, Report, TellStatus, SetParameters}
use Rattle.transitions.specs.Table.{step_table}
use Rattle.transitions.proofs.Every.{Test, passes, decided_holds}
use Rattle.transitions.proofs.Sound.{pends_termination, pends_status, rows_sound}
use Rattle.transitions.proofs.Decided.{OfTaken}
use Rattle.call.specs.declared.Due.{Due}
use Rattle.call.specs.declared.Due.TheVariants.{Steps, Ignored, Reported, Refused}
use Rattle.call.specs.declared.Seen.{Seen}
use Rattle.call.specs.declared.Sending.{Sending}
use Rattle.call.specs.declared.Sending.TheVariants.{OfRow, Status, ErrorStatus}
use Rattle.call.specs.declared.Sent.{Sent}
use Rattle.call.specs.declared.Settled.{Settled}
use Rattle.call.specs.Events.{seen_of}
use Rattle.call.specs.Talk.{with_value, adopted, awaiting_after, sent_in}
use Rattle.call.specs.Step.{afterwards, ignored, no_step, reported_with, status_told, parameters_set, carried_out, step_by}
use Rattle.call.specs.Due.{settled_by, settled}
use Rattle.call.proofs.Kept.{after, request_noted, status-noted, requesting-there, asked-there, none_due, none-asked}

-- Nothing that was pending.
abbrev pub None : Sent → Type 0
None k = (k.status ≡ false) × (k.request ≡ false)

-- What may go beside what the step itself sends. Only a report, which has another answer than 0, sends an error STATUS.
abbrev pub Together : Settled → Sending → Type 0
Together r (OfRow Nothing) = Unit {0}
Together r (OfRow ImmediateSetup) = None r.sent
Together r (OfRow Setup) = r.sent.request ≡ false
Together r (OfRow TerminationRequest) = None r.sent
Together r (Status cause) = None r.sent
Together r (ErrorStatus cause) = (r.answer ≡ 0 → ⊥) × None r.sent

-- ---- the rows' test

-- Where a request may be pending, or a STATUS, what a row may send.
abbrev sends_beside : Send → (requests asks : Bool) → Bool
sends_beside Nothing requests asks = true
sends_beside ImmediateSetup requests asks = not requests && not asks
sends_beside Setup requests asks = not requests
sends_beside TerminationRequest requests asks = not requests && not asks

abbrev alone : Fitness → Test
alone fitness n s t r d =
    sends_beside d.sends (among s fitness.requesting || pends_termination d.note) (among s fitness.asked || pends_status d.note)

alone_in : (table : Table) → passes (alone (fitness_of table)) (step_table table) ≡ true
unfolding step_table fitness_of protocol_of returning
alone_in First = refl
alone_in Second = refl
alone_in Third = refl
alone_in Group = refl

-- ---- after a row

-- What is pending behind a row was pending before it, or the row notes it.
pends_after : (y : Context) (d : Taken) (e : Seen) → (afterwards y d e).talk.termination ≡ true → (y.talk.termination || pends_termination d.note) ≡ true
unfolding afterwards cleared awaiting_after
pends_after y d e =
    at_cond (λ z. z.talk.termination ≡ true → (y.talk.termination || pends_termination d.note) ≡ true) (same d.next U0) cleared (after y d e) (λ u r. never r)
    (λ u r. request_noted d.note y.talk r)

asks-after : (y : Context) (d : Taken) (e : Seen) → (afterwards y d e).talk.status ≡ true → (y.talk.status || pends_status d.note) ≡ true
unfolding afterwards cleared awaiting_after
asks-after y d e =
    at_cond (λ z. z.talk.status ≡ true → (y.talk.status || pends_status d.note) ≡ true) (same d.next U0) cleared (after y d e) (λ u r. never r)
    (λ u r. status-noted d.note y.talk r)

-- A context that is another but for its value; such is the one that has adopted a value.
pub record Alike (x y : Context) : Type 0 where
  pub state : y.state ≡ x.state
  pub parameters : y.parameters ≡ x.parameters
  pub termination : y.talk.termination ≡ x.talk.termination
  pub status : y.talk.status ≡ x.talk.status
  pub chooser : y.talk.chooser ≡ x.talk.chooser

pub adopted_alike : (x : Context) (e : Seen) → Alike x (adopted x e)
unfolding adopted
adopted_alike x e =
    at_cond (Alike x) (x.talk.awaiting && eqb e.number 18) (with_value e.value x) x
    (λ q. record { state = refl; parameters = refl; termination = refl; status = refl; chooser = refl })
    (λ q. record { state = refl; parameters = refl; termination = refl; status = refl; chooser = refl })

-- What can't be so is not.
pub refuted : (a b : Bool) → (a ≡ true → b ≡ true) → b ≡ false → a ≡ false
refuted true b f e = never (sym e ∙ f refl)
refuted false b f e = refl

or-there : (a b c : Bool) → (a ≡ true → c ≡ true) → (a || b) ≡ true → (c || b) ≡ true
or-there true b c f e = rw (f refl)
or-there false true c f e = go c
  where
    go : (c : Bool) → (c || true) ≡ true
    go true = refl
    go false = refl
or-there false false c f e = never e

module _ (table : Table) (x : Context) (fit : fit_of table x ≡ true) where
  abbrev fitness : Fitness
  fitness = fitness_of table

  abbrev good : SoundFitness fitness
  good = (rows_sound table).fitness_sound

  module _ (d : Taken) (e : Seen) where
    abbrev left : Context
    left = afterwards (adopted x e) d e

    request_there : (sent_in left).request ≡ true → (among x.state fitness.requesting || pends_termination d.note) ≡ true
    unfolding sent_in
    request_there r =
        or-there x.talk.termination _ _ (requesting-there fitness good x fit)
        (rw (adopted_alike x e).termination at (pends_after (adopted x e) d e (and_right left.parameters.orig _ (and_right left.parameters.comm _ r))))

    status-there : (sent_in left).status ≡ true → (among x.state fitness.asked || pends_status d.note) ≡ true
    unfolding sent_in
    status-there r =
        or-there x.talk.status _ _ (asked-there fitness good x fit) (rw (adopted_alike x e).status at (asks-after (adopted x e) d e (and_right left.parameters.comm _ r)))

    beside-row : (sends : Send) → sends_beside sends (among x.state fitness.requesting || pends_termination d.note) (among x.state fitness.asked || pends_status d.note) ≡ true
        → Together (carried_out fitness x (Take d) e) (OfRow sends)
    unfolding carried_out
    beside-row Nothing t = tt
    beside-row ImmediateSetup t = (
      refuted _ _ status-there (not-true _ (and_right (not (among x.state fitness.requesting || pends_termination d.note)) _ t)),
      refuted _ _ request_there (not-true _ (and_left (not (among x.state fitness.requesting || pends_termination d.note)) _ t)),
    )
    beside-row Setup t = refuted _ _ request_there (not-true _ t)
    beside-row TerminationRequest t = (
      refuted _ _ status-there (not-true _ (and_right (not (among x.state fitness.requesting || pends_termination d.note)) _ t)),
      refuted _ _ request_there (not-true _ (and_left (not (among x.state fitness.requesting || pends_termination d.note)) _ t)),
    )

  -- ---- after a step

  abbrev Spoken : Settled → Type 0
  Spoken r = Together r r.sends

  reported_spoken : (cause : ℕ) → Spoken (reported_with cause x)
  unfolding reported_with ignored
  reported_spoken cause = at_cond Spoken x.parameters.comm _ _ (λ e. (λ n. omega (arith, n), (refl, refl))) (λ e. tt)

  carried_spoken : (d : Decision) (e : Seen) → OfTaken (λ d. alone fitness 0 x.state x.timers x.remembered d ≡ true) d → Spoken (carried_out fitness x d e)
  unfolding carried_out no_step ignored status_told parameters_set
  carried_spoken (Take d) e t = beside-row d e d.sends t
  carried_spoken NoStep e t = tt
  carried_spoken Ignore e t = tt
  carried_spoken (Report cause) e t = reported_spoken cause
  carried_spoken TellStatus e t = at_cond Spoken x.parameters.comm _ _ (λ q. (none-asked fitness good x fit, none_due fitness good x fit)) (λ q. tt)
  carried_spoken SetParameters e t = at_cond Spoken (consistent_by fitness x.state (parameters_of e.attributes)) _ _ (λ q. tt) (λ q. reported_spoken 98)

  -- Whatever is due in a fit context, by any table.
  pub together : (due : Due) → Spoken (settled table x due)
  unfolding settled_by step_by ignored no_step
  together (Steps event) =
      carried_spoken _ (seen_of event)
      (decided_holds (alone fitness) (λ k. OfTaken (λ d. alone fitness 0 x.state x.timers x.remembered d ≡ true)) x (λ k d e. e) (λ k. tt) (λ cause. tt) (step_table table) (alone_in table)
      (λ u. tt) tt (λ u. tt) (seen_of event).number (seen_of event).code)
  together (Ignored reason) = tt
  together (Reported cause) = reported_spoken cause
  together Refused = tt
