-- What a step of a group call leads to before it sends what is due: whatever waits goes on waiting, and whoever chose the value has chosen it, until the call ends. Only event 36
-- takes a request back, only event 4 makes one wait, only GET STATUS a STATUS, and only in U0 is a value chosen.
use Prim.Native.Nat.{ℕ}
use mathlib.Core.Path.{◌≡◌, refl, sym, subst, ◌∙◌}
use mathlib.Core.List.{List, [], ◌∷◌}
use mathlib.Core.Logic.{◌⊎◌, inl, inr}
use mathlib.Core.Bool.{Bool, true, false, not, ◌&&◌, ◌||◌, and-true}
use lib.Dec.{eqb}
use borrow.Author.Tests.{eqb-true, not-true}
use Rattle.octets.specs.Rows.{rows}
use Rattle.octets.proofs.Choice.{at_cond, never}
use Rattle.codes.specs.declared.state.State.TheVariants.{U0}
use Rattle.codes.specs.Attributes.{parameters_of}
use Rattle.codes.specs.MessageTypes.{GET-STATUS}
use Rattle.version.specs.declared.Table.TheVariants.{Group}
use Rattle.version.specs.Version.{protocol_of}
use Rattle.context.specs.declared.Context.{Context}
use Rattle.context.specs.declared.Talk.{Talk}
use Rattle.context.specs.declared.Chooser.{Chooser}
use Rattle.context.specs.Context.{cleared}
use Rattle.context.specs.Remembered.{returning}
use Rattle.context.specs.States.{same}
use Rattle.context.proofs.Whole.{and_left, and_right, if_so, in_states, at_state}
use Rattle.fitness.specs.Fitness.{consistent_by}
use Rattle.fitness.specs.Tables.{fitness_of, fit_of}
use Rattle.fitness.proofs.Sound.{Sound as SoundFitness}
use Rattle.transitions.specs.declared.Note.{Note}
use Rattle.transitions.specs.declared.Taken.{Taken}
use Rattle.transitions.specs.declared.Decision.{Decision}
use Rattle.transitions.specs.declared.Decision.TheVariants.{Take, NoStep, Ignore, Report, TellStatus, SetParameters}
use Rattle.transitions.specs.Table.{step_table, types_in, heard_in, decided_in, decided_by}
use Rattle.transitions.proofs.Every.{Test, passes, decided_holds}
use Rattle.transitions.proofs.Sound.{pends_termination, pends_status, chooser_after, names_originator, rows_sound}
use Rattle.transitions.proofs.Decided.{OfTaken}
use Rattle.call.specs.declared.Due.{Due}
use Rattle.call.specs.declared.Due.TheVariants.{Steps, Ignored, Reported, Refused}
use Rattle.call.specs.declared.Reason.{Reason}
use Rattle.call.specs.declared.Seen.{Seen}
use Rattle.call.specs.declared.Sending.TheVariants.{OfRow}
use Rattle.call.specs.declared.Settled.{Settled}
use Rattle.call.specs.Events.{seen_of}
use Rattle.call.specs.Talk.{noted, adopted, awaiting_after, sent_in, unsent, flushed}
use Rattle.call.specs.Step.{parameters_after, afterwards, ignored, no_step, reported_with, status_told, with_parameters, parameters_set, carried_out, step_by}
use Rattle.call.specs.Due.{settled_by, settled}
use Rattle.call.specs.Waiting.{as_row, number_due, asks_status}
use Rattle.call.proofs.Kept.{after, unnamed, request_noted, status-noted, chooser_noted, none_due, none-asked}
use Rattle.call.proofs.Together.{Alike, adopted_alike, refuted}

-- The context `y` that is led to from `x` by an event of a number; whether it is a GET STATUS.
pub record Leads (number : ℕ) (asks : Bool) (x y : Context) : Type 0 where
  pub request_kept : eqb number 36 ≡ false → x.talk.termination ≡ true → y.talk.termination ≡ true
  pub request_dropped : x.talk.termination ≡ true → y.talk.termination ≡ false → y.parameters ≡ x.parameters
  pub request_new : eqb number 4 ≡ false → x.talk.termination ≡ false → y.talk.termination ≡ false
  pub status-kept : x.talk.status ≡ true → y.talk.status ≡ true
  pub status_new : asks ≡ false → x.talk.status ≡ false → y.talk.status ≡ false
  pub chooser_kept : same x.state U0 ≡ false → y.talk.chooser ≡ x.talk.chooser

-- A step leads to a context, or to U0, and sends what is due there.
abbrev pub Comes : ℕ → Bool → Context → Settled → Type 0
Comes number asks x r = (y : Context) × (r.context ≡ flushed y) × (r.sent ≡ sent_in y) × ((y ≡ cleared) ⊎ Leads number asks x y)

-- ---- the rows' test

abbrev drops : Note → Bool
drops Note.Nothing = false
drops Note.WeChose = false
drops Note.CellChose = false
drops Note.TerminationPends = false
drops Note.StatusPends = false
drops Note.TerminationDropped = true

abbrev chooses : Note → Bool
chooses Note.Nothing = false
chooses Note.WeChose = true
chooses Note.CellChose = true
chooses Note.TerminationPends = false
chooses Note.StatusPends = false
chooses Note.TerminationDropped = false

-- Only the row of 36 drops a request, and stays; only that of 4 notes one, only a message a STATUS, and only in U0 is a value chosen.
abbrev notes_rightly : Test
notes_rightly n s t r d =
    (not (drops d.note) || (eqb n 36 && (same s d.next && not (names_originator d.stores))))
    && ((not (pends_termination d.note) || eqb n 4)
    && ((not (pends_status d.note) || eqb n 18)
    && (same s U0 || not (chooses d.note))))

notes_rightly_lem : passes notes_rightly (step_table Group) ≡ true
unfolding step_table protocol_of returning
notes_rightly_lem = refl

pub record Rightly (n : ℕ) (x : Context) (d : Taken) : Type 0 where
  pub dropped_by : drops d.note ≡ true → (eqb n 36 && (same x.state d.next && not (names_originator d.stores))) ≡ true
  pub pends_by : pends_termination d.note ≡ true → eqb n 4 ≡ true
  pub asks-by : pends_status d.note ≡ true → eqb n 18 ≡ true
  pub chosen_in : same x.state U0 ≡ false → chooses d.note ≡ false

unless : (a b : Bool) → (a || not b) ≡ true → a ≡ false → b ≡ false
unless true b e f = never (sym f)
unless false b e f = not-true b e

rightly : (n : ℕ) (x : Context) (d : Taken) → notes_rightly n x.state x.timers x.remembered d ≡ true → Rightly n x d
rightly n x d e =
    let a : Bool = not (drops d.note) || (eqb n 36 && (same x.state d.next && not (names_originator d.stores))) in
    let b : Bool = not (pends_termination d.note) || eqb n 4 in
    let c : Bool = not (pends_status d.note) || eqb n 18 in
    record {
      dropped_by = λ q. if_so (drops d.note) _ (and_left a _ e) q;
      pends_by = λ q. if_so (pends_termination d.note) _ (and_left b _ (and_right a _ e)) q;
      asks-by = λ q. if_so (pends_status d.note) _ (and_left c _ (and_right b _ (and_right a _ e))) q;
      chosen_in = λ q. unless (same x.state U0) _ (and_right c _ (and_right b _ (and_right a _ e))) q;
    }

decided_rightly : (x : Context) (n code : ℕ) → OfTaken (Rightly n x) (decided_by (step_table Group) x n code)
decided_rightly x =
    decided_holds notes_rightly (λ k. OfTaken (Rightly k x)) x (λ k d e. rightly k x d e) (λ k. tt) (λ cause. tt) (step_table Group) notes_rightly_lem (λ u. tt) tt (λ u. tt)

-- Of the messages only GET STATUS makes a STATUS wait.
abbrev quiet : Decision → Bool
quiet (Take d) = not (pends_status d.note)
quiet NoStep = true
quiet Ignore = true
quiet (Report cause) = true
quiet TellStatus = true
quiet SetParameters = true

abbrev quiet_rows : List (ℕ × Decision) → Bool
quiet_rows [] = true
quiet_rows (r ∷ more) = (eqb r.0 GET-STATUS || quiet r.1) && quiet_rows more

or-false-left : (a b : Bool) → (a || b) ≡ true → a ≡ false → b ≡ true
or-false-left true b e f = never (sym f)
or-false-left false b e f = e

found-quiet : (code : ℕ) → eqb code GET-STATUS ≡ false → (d : Decision) → quiet d ≡ true → (found : List (ℕ × Decision)) → quiet_rows found ≡ true → quiet (rows code d found) ≡ true
found-quiet code other d q [] e = q
found-quiet code other d q (r ∷ more) e =
    at_cond (λ c. quiet c ≡ true) (eqb code r.0) r.1 (rows code d more)
    (λ k. or-false-left (eqb r.0 GET-STATUS) _ (and_left (eqb r.0 GET-STATUS || quiet r.1) _ e) (subst (λ c. eqb c GET-STATUS ≡ false) (eqb-true code r.0 k) other))
    (λ k. found-quiet code other d q more (and_right (eqb r.0 GET-STATUS || quiet r.1) _ e))

types-quiet : (x : Context) → in_states (λ s. quiet_rows (types_in (step_table Group) s x)) ≡ true
unfolding step_table protocol_of
types-quiet x = refl

heard-quiet : (x : Context) (code : ℕ) → eqb code GET-STATUS ≡ false → quiet (heard_in (step_table Group) x.state x code) ≡ true
unfolding heard_in
heard-quiet x code other =
    at_cond (λ c. quiet c ≡ true) (same x.state U0) Ignore _ (λ u. refl)
    (λ u. found-quiet code other (Report 97) refl (types_in (step_table Group) x.state x) (at_state (λ s. quiet_rows (types_in (step_table Group) s x)) (types-quiet x) x.state))

taken-quiet : (d : Decision) → quiet d ≡ true → OfTaken (λ t. pends_status t.note ≡ false) d
taken-quiet (Take d) e = not-true _ e
taken-quiet NoStep e = tt
taken-quiet Ignore e = tt
taken-quiet (Report cause) e = tt
taken-quiet TellStatus e = tt
taken-quiet SetParameters e = tt

no_message-quiet : (n : ℕ) (x : Context) (d : Decision) → eqb n 18 ≡ false → OfTaken (Rightly n x) d → OfTaken (λ t. pends_status t.note ≡ false) d
no_message-quiet n x (Take d) e r = refuted _ _ r.asks-by e
no_message-quiet n x NoStep e r = tt
no_message-quiet n x Ignore e r = tt
no_message-quiet n x (Report cause) e r = tt
no_message-quiet n x TellStatus e r = tt
no_message-quiet n x SetParameters e r = tt

decided_quiet : (x : Context) (n code : ℕ) → (eqb n 18 && eqb code GET-STATUS) ≡ false → OfTaken (λ t. pends_status t.note ≡ false) (decided_by (step_table Group) x n code)
unfolding decided_by decided_in
decided_quiet x n code other = go (eqb n 18) refl
  where
    go : (b : Bool) → eqb n 18 ≡ b → OfTaken (λ t. pends_status t.note ≡ false) (decided_by (step_table Group) x n code)
    go true e = rw e (taken-quiet (heard_in (step_table Group) x.state x code) (heard-quiet x code (rw e at other)))
    go false e = no_message-quiet n x (decided_by (step_table Group) x n code) e (decided_rightly x n code)

-- ---- after a row

-- What waits is kept, unless it is dropped.
request_stays : (note : Note) (k : Talk) → drops note ≡ false → k.termination ≡ true → (noted note k).termination ≡ true
unfolding noted
request_stays Note.Nothing k n e = e
request_stays Note.WeChose k n e = e
request_stays Note.CellChose k n e = e
request_stays Note.TerminationPends k n e = refl
request_stays Note.StatusPends k n e = e
request_stays Note.TerminationDropped k n e = never (sym n)

status-stays : (note : Note) (k : Talk) → k.status ≡ true → (noted note k).status ≡ true
unfolding noted
status-stays Note.Nothing k e = e
status-stays Note.WeChose k e = e
status-stays Note.CellChose k e = e
status-stays Note.TerminationPends k e = e
status-stays Note.StatusPends k e = refl
status-stays Note.TerminationDropped k e = e

same_chooser : (note : Note) (c : Chooser) → chooses note ≡ false → chooser_after note c ≡ c
same_chooser Note.Nothing c n = refl
same_chooser Note.WeChose c n = never (sym n)
same_chooser Note.CellChose c n = never (sym n)
same_chooser Note.TerminationPends c n = refl
same_chooser Note.StatusPends c n = refl
same_chooser Note.TerminationDropped c n = refl

dropped_else : (note : Note) (k : Talk) → k.termination ≡ true → (noted note k).termination ≡ false → drops note ≡ true
dropped_else note k e n = go (drops note) refl
  where
    go : (b : Bool) → drops note ≡ b → drops note ≡ true
    go true q = q
    go false q = never (sym n ∙ request_stays note k q e)

neither : (a b : Bool) → a ≡ false → b ≡ false → (a || b) ≡ false
neither a b e f = rw (e, f)

module _ (n : ℕ) (asks : Bool) (x y : Context) (alike : Alike x y) (d : Taken) (e : Seen) (right : Rightly n x d) (unasked : asks ≡ false → pends_status d.note ≡ false) where
  parameters-stay : drops d.note ≡ true → (after y d e).parameters ≡ x.parameters
  unfolding parameters_after
  parameters-stay q =
      let stays : (same x.state d.next && not (names_originator d.stores)) ≡ true = and_right (eqb n 36) _ (right.dropped_by q) in
      rw (alike.state, and_left (same x.state d.next) _ stays, unnamed d.stores e.attributes y.parameters (not-true _ (and_right (same x.state d.next) _ stays)))
      alike.parameters

  row_leads : Leads n asks x (after y d e)
  unfolding awaiting_after
  row_leads = record {
    request_kept = λ other waits. request_stays d.note y.talk (refuted _ _ (λ q. and_left (eqb n 36) _ (right.dropped_by q)) other) (alike.termination ∙ waits);
    request_dropped = λ waits gone. parameters-stay (dropped_else d.note y.talk (alike.termination ∙ waits) gone);
    request_new = λ other none.
        refuted _ _ (request_noted d.note y.talk) (neither y.talk.termination _ (alike.termination ∙ none) (refuted _ _ right.pends_by other));
    status-kept = λ waits. status-stays d.note y.talk (alike.status ∙ waits);
    status_new = λ other none. refuted _ _ (status-noted d.note y.talk) (neither y.talk.status _ (alike.status ∙ none) (unasked other));
    chooser_kept = λ called. chooser_noted d.note y.talk ∙ same_chooser d.note y.talk.chooser (right.chosen_in called) ∙ alike.chooser;
  }

-- ---- after a step

-- What stays as it is.
alike_leads : (n : ℕ) (asks : Bool) (x y : Context) → y.talk.termination ≡ x.talk.termination → y.talk.status ≡ x.talk.status → y.talk.chooser ≡ x.talk.chooser → Leads n asks x y
alike_leads n asks x y a b c = record {
  request_kept = λ other waits. a ∙ waits;
  request_dropped = λ waits gone. never (sym gone ∙ a ∙ waits);
  request_new = λ other none. a ∙ none;
  status-kept = λ waits. b ∙ waits;
  status_new = λ other none. b ∙ none;
  chooser_kept = λ called. c;
}

module _ (x : Context) (fit : fit_of Group x ≡ true) where
  abbrev good : SoundFitness (fitness_of Group)
  good = (rows_sound Group).fitness_sound

  -- In a fit context nothing is due.
  at_rest : flushed x ≡ x
  unfolding flushed
  at_rest = rw (none_due (fitness_of Group) good x fit, none-asked (fitness_of Group) good x fit, and-true x.talk.status)

  unsent-there : unsent x ≡ sent_in x
  unfolding sent_in
  unsent-there =
      let a : (x.parameters.comm && x.talk.status) ≡ false = none-asked (fitness_of Group) good x fit in
      let b : (x.parameters.comm && (x.parameters.orig && x.talk.termination)) ≡ false = none_due (fitness_of Group) good x fit in
      rw (a, b)

  module _ (n : ℕ) (asks : Bool) where
    -- A step that keeps the context.
    kept-comes : (y : Context) × (x ≡ flushed y) × (unsent x ≡ sent_in y) × ((y ≡ cleared) ⊎ Leads n asks x y)
    kept-comes = (x, sym at_rest, unsent-there, inr (alike_leads n asks x x refl refl refl))

    ignored-comes : (reason : Reason) → Comes n asks x (ignored reason x)
    unfolding ignored
    ignored-comes reason = kept-comes

    reported_comes : (cause : ℕ) → Comes n asks x (reported_with cause x)
    unfolding reported_with
    reported_comes cause = at_cond (Comes n asks x) x.parameters.comm _ _ (λ e. kept-comes) (λ e. ignored-comes _)

    none-comes : Comes n asks x (no_step x)
    unfolding no_step
    none-comes = kept-comes

    carried-comes : (d : Decision) (e : Seen) → OfTaken (Rightly n x) d → (asks ≡ false → OfTaken (λ t. pends_status t.note ≡ false) d) → Comes n asks x (carried_out (fitness_of Group) x d e)
    unfolding carried_out status_told parameters_set afterwards
    carried-comes (Take d) e right unasked = (
      afterwards (adopted x e) d e,
      refl,
      refl,
      at_cond (λ y. (y ≡ cleared) ⊎ Leads n asks x y) (same d.next U0) cleared (after (adopted x e) d e) (λ q. inl refl)
          (λ q. inr (row_leads n asks x (adopted x e) (adopted_alike x e) d e right unasked)),
    )
    carried-comes NoStep e right unasked = none-comes
    carried-comes Ignore e right unasked = ignored-comes _
    carried-comes (Report cause) e right unasked = reported_comes cause
    carried-comes TellStatus e right unasked =
        at_cond (Comes n asks x) x.parameters.comm _ _ (λ q. (x, refl, refl, inr (alike_leads n asks x x refl refl refl))) (λ q. ignored-comes _)
    carried-comes SetParameters e right unasked =
        let k : Alike x (adopted x e) = adopted_alike x e in
        at_cond (Comes n asks x) (consistent_by (fitness_of Group) x.state (parameters_of e.attributes)) _ _
        (λ q. (with_parameters (parameters_of e.attributes) (adopted x e), refl, refl, inr (alike_leads n asks x _ k.termination k.status k.chooser))) (λ q. reported_comes 98)

  -- Whatever is due in a fit context of a group call.
  pub leads : (due : Due) → Comes (number_due due) (asks_status due) x (settled Group x due)
  unfolding settled_by step_by
  leads (Steps event) =
      carried-comes (seen_of event).number (asks_status (Steps event)) _ (seen_of event) (decided_rightly x (seen_of event).number (seen_of event).code)
      (decided_quiet x (seen_of event).number (seen_of event).code)
  leads (Ignored reason) = ignored-comes 0 false reason
  leads (Reported cause) = reported_comes 0 false cause
  leads Refused = none-comes 0 false

-- ---- what a row sends itself

-- No row of a group call sends a TERMINATION REQUEST: each is one that waited, if only for the step that asked for it.
abbrev no_request : Test
no_request n s t r d = not (as_row (OfRow d.sends))

no_request_lem : passes no_request (step_table Group) ≡ true
unfolding step_table protocol_of returning
no_request_lem = refl

module _ (x : Context) where
  abbrev Waited : Settled → Type 0
  Waited r = as_row r.sends ≡ false

  reported_waited : (cause : ℕ) → Waited (reported_with cause x)
  unfolding reported_with ignored
  reported_waited cause = at_cond Waited x.parameters.comm _ _ (λ e. refl) (λ e. refl)

  carried_waited : (d : Decision) (e : Seen) → OfTaken (λ t. as_row (OfRow t.sends) ≡ false) d → Waited (carried_out (fitness_of Group) x d e)
  unfolding carried_out no_step ignored status_told parameters_set
  carried_waited (Take d) e n = n
  carried_waited NoStep e n = refl
  carried_waited Ignore e n = refl
  carried_waited (Report cause) e n = reported_waited cause
  carried_waited TellStatus e n = at_cond Waited x.parameters.comm _ _ (λ q. refl) (λ q. refl)
  carried_waited SetParameters e n = at_cond Waited (consistent_by (fitness_of Group) x.state (parameters_of e.attributes)) _ _ (λ q. refl) (λ q. reported_waited 98)

  pub none_of_a_row : (due : Due) → Waited (settled Group x due)
  unfolding settled_by step_by ignored no_step
  none_of_a_row (Steps event) =
      carried_waited _ (seen_of event)
      (decided_holds no_request (λ k. OfTaken (λ t. as_row (OfRow t.sends) ≡ false)) x (λ k d e. not-true _ e) (λ k. tt) (λ cause. tt) (step_table Group) no_request_lem (λ u. tt) tt (λ u. tt)
      (seen_of event).number (seen_of event).code)
  none_of_a_row (Ignored reason) = refl
  none_of_a_row (Reported cause) = reported_waited cause
  none_of_a_row Refused = refl
