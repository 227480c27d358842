-- A termination request and a response to GET STATUS in a group call, in so many words. With ORIG and COMM true, event 4 sends TERMINATION REQUEST and leads to U5; without
-- COMM the request waits, and event 36 takes it back, and nothing else. GET STATUS is answered where COMM is true, and else the STATUS waits. From U2r the radio asks to talk.
use Prim.Native.Nat.{ℕ}
use mathlib.Core.Path.{◌≡◌, refl, sym, ap, ◌∙◌}
use mathlib.Core.List.{List, [], ◌∷◌}
use mathlib.Core.Bool.{Bool, true, false, cond, not, ◌&&◌, and-true, and-false, or-false}
use lib.Dec.{eqb}
use native.Mathlib.Omega.{arith}
use borrow.Author.Tests.{eq-eqb, not-true}
use Rattle.octets.proofs.Choice.{cond_same, at_cond, never}
use Rattle.std.specs.Prelude.{None}
use Rattle.codes.specs.declared.state.State.{State}
use Rattle.codes.specs.declared.state.State.TheVariants.{U0, U0p, U1, U2, U3, U4, U5, U6, U2sl, U2wr, U2r, U2ws, U2sr, U2nc}
use Rattle.codes.specs.MessageTypes.{GET-STATUS}
use Rattle.std.specs.Prelude.{Option}
use Rattle.octets.specs.declared.Run.{Run}
use Rattle.message.specs.declared.Message.TheVariants.{GetStatus}
use Rattle.timer.specs.declared.Timer.TheVariants.{Term}
use Rattle.timer.specs.declared.Timers.{Timers}
use Rattle.timer.specs.Timers.{timer_number, alone, with_timer}
use Rattle.version.specs.declared.Table.TheVariants.{Group}
use Rattle.version.specs.Version.{protocol_of}
use Rattle.context.specs.declared.Context.{Context}
use Rattle.context.specs.States.{number_of, same, among}
use Rattle.context.specs.Context.{start_row, set_row, entering}
use Rattle.context.proofs.States.{same-state}
use Rattle.context.proofs.Whole.{and_left, and_right}
use Rattle.fitness.specs.Fitness.{consistent_by, timers_fit_by}
use Rattle.fitness.specs.Tables.{sub_states, fitness_of, fit_of}
use Rattle.fitness.proofs.Tables.{fit-timers, fit-known, fit-consistent}
use Rattle.fitness.proofs.Sound.{Sound as SoundFitness, request_timers, request_timers-fit}
use Rattle.transitions.specs.declared.Send.TheVariants.{Nothing}
use Rattle.transitions.specs.declared.Stores.TheVariants as Stores
use Rattle.transitions.specs.declared.Memory.TheVariants.{Keep}
use Rattle.transitions.specs.declared.Note.{Note}
use Rattle.transitions.specs.declared.Taken.{Taken}
use Rattle.transitions.specs.declared.Decision.{Decision}
use Rattle.transitions.specs.declared.Decision.TheVariants.{Take, NoStep, Ignore, TellStatus}
use Rattle.transitions.specs.Table.{step_table, happened_in, heard_in}
use Rattle.transitions.proofs.InState.{heard_in_state}
use Rattle.transitions.proofs.Sound.{rows_sound}
use Rattle.call.specs.declared.Event.TheVariants.{Terminate, TerminationDeleted, Received}
use Rattle.call.specs.declared.Seen.{Seen}
use Rattle.call.specs.declared.Settled.{Settled}
use Rattle.call.specs.Events.{no_reference, bare, heard, seen_message, seen_of}
use Rattle.call.specs.Talk.{noted, with_value, adopted, originating, awaiting_after, sent_in, unsent, flushed}
use Rattle.call.specs.Step.{parameters_after, value_after, reference_after, afterwards, silent, took, no_step, carried_out, step_by, step_value}
use Rattle.call.specs.Waiting.{with_talk, with_request, with_status, terminating, asking_to_talk, asking_to_answer, given, comes, a_request, a_status}
use Rattle.call.proofs.Kept.{requesting-there, awaiting-there, none_due, none-asked}
use Rattle.call.proofs.Invitation.{step_in}

-- ---- the rows

-- The states in which a request waits where it is asked for; from U2r the radio asks to talk.
abbrev staying : List State
staying = U1 ∷ U2sl ∷ U2wr ∷ U2ws ∷ U2sr ∷ U2nc ∷ []

abbrev stay_row : State → Note → Taken
stay_row s note =
    record { next = s; actions = 0; sends = Nothing; stops = None; sets = None; stores = Stores.Nothing; memory = Keep; note = note }

abbrev talk_row : Note → Taken
talk_row note =
    record { next = U2ws; actions = 64; sends = Nothing; stops = None; sets = None; stores = Stores.Nothing; memory = Keep; note = note }

row_of_4 : (x : Context) (s : State) → happened_in (step_table Group) s x 4
    ≡ cond (among s staying) (cond x.parameters.orig (Take (stay_row s Note.TerminationPends)) NoStep) (cond (same s U2r) (cond x.parameters.orig (Take (talk_row Note.TerminationPends)) NoStep) NoStep)
unfolding happened_in step_table protocol_of
row_of_4 x = elim [ U0 ↦ refl | U0p ↦ refl | U1 ↦ refl | U2 ↦ refl | U3 ↦ refl | U4 ↦ refl | U5 ↦ refl | U6 ↦ refl | U2sl ↦ refl | U2wr ↦ refl | U2r ↦ refl | U2ws ↦ refl | U2sr ↦ refl | U2nc ↦ refl ]

row_of_36 : (x : Context) (s : State) → happened_in (step_table Group) s x 36 ≡ cond (among s (U1 ∷ sub_states)) (cond x.talk.termination (Take (stay_row s Note.TerminationDropped)) NoStep) NoStep
unfolding happened_in step_table protocol_of
row_of_36 x = elim [ U0 ↦ refl | U0p ↦ refl | U1 ↦ refl | U2 ↦ refl | U3 ↦ refl | U4 ↦ refl | U5 ↦ refl | U6 ↦ refl | U2sl ↦ refl | U2wr ↦ refl | U2r ↦ refl | U2ws ↦ refl | U2sr ↦ refl | U2nc ↦ refl ]

row_of_status : (x : Context) (s : State) → heard_in (step_table Group) s x GET-STATUS
    ≡ cond (same s U0) Ignore (cond (same s U2r) (Take (talk_row Note.StatusPends)) (cond (among s (U2 ∷ U6 ∷ [])) TellStatus (Take (stay_row s Note.StatusPends))))
unfolding heard_in step_table protocol_of
row_of_status x = elim [ U0 ↦ refl | U0p ↦ refl | U1 ↦ refl | U2 ↦ refl | U3 ↦ refl | U4 ↦ refl | U5 ↦ refl | U6 ↦ refl | U2sl ↦ refl | U2wr ↦ refl | U2r ↦ refl | U2ws ↦ refl | U2sr ↦ refl | U2nc ↦ refl ]

-- ---- what they bring about

same_self : (s : State) → same s s ≡ true
same_self s = eq-eqb (number_of s) (number_of s) refl

-- A row that stays notes, and does nothing else.
stayed : (x : Context) (s : State) (note : Note) (e : Seen) → x.state ≡ s → same s U0 ≡ false → afterwards x (stay_row s note) e ≡ with_talk (noted note x.talk) x
unfolding afterwards parameters_after originating awaiting_after value_after reference_after with_timer
stayed x s note e here called = rw (here, called, same_self s, and-false (same s U2ws), or-false (noted note x.talk).awaiting)

-- An event that is no message gives no value.
unadopted : (x : Context) (n : ℕ) → eqb n 18 ≡ false → adopted x (bare n) ≡ x
unfolding adopted
unadopted x n e = rw (e, and-false x.talk.awaiting)

-- Where the radio asks to talk, ORIG is kept and COMM false, and without ORIG the next value is awaited.
talked : (x : Context) (note : Note) (e : Seen) → x.state ≡ U2r
    → afterwards x (talk_row note) e ≡ asking_to_talk (with_talk (awaiting_after U2r U2ws x.parameters (noted note x.talk)) x)
unfolding afterwards parameters_after originating awaiting_after value_after reference_after with_timer entering set_row start_row
talked x note e here = rw here

-- Nothing is sent where nothing is due, as where COMM is false.
undue : (y : Context) (actions : ℕ) → (sent_in y).status ≡ false → (sent_in y).request ≡ false → took y actions silent ≡ comes y actions (unsent y)
unfolding flushed sent_in
undue y actions a b = rw (a, b, and-true y.talk.status)

unspoken : (y : Context) (actions : ℕ) → y.parameters.comm ≡ false → took y actions silent ≡ comes y actions (unsent y)
unfolding sent_in
unspoken y actions e = undue y actions (rw e) (rw e)

-- A STATUS that waits is sent where COMM is true, and no request with it where none waits or ORIG is false.
told_at_once : (y : Context) → y.parameters.comm ≡ true → y.talk.status ≡ false → (y.parameters.orig && y.talk.termination) ≡ false
    → took (with_status true y) 0 silent ≡ comes y 0 (a_status y)
unfolding flushed sent_in
told_at_once y speaks none unasked = rw (speaks, unasked, none)

seen_4 : seen_of Terminate ≡ bare 4
unfolding seen_of
seen_4 = refl

seen_36 : seen_of TerminationDeleted ≡ bare 36
unfolding seen_of
seen_36 = refl

-- An event that is no message, by its row that stays.
row_stays : (x : Context) (n : ℕ) (note : Note) → eqb n 18 ≡ false → same x.state U0 ≡ false
    → carried_out (fitness_of Group) x (Take (stay_row x.state note)) (bare n) ≡ took (with_talk (noted note x.talk) x) 0 silent
unfolding carried_out
row_stays x n note e called =
    ap (λ (y : Context). took y 0 silent) (ap (λ (y : Context). afterwards y (stay_row x.state note) (bare n)) (unadopted x n e) ∙ stayed x x.state note (bare n) refl called)

-- The states where a request can be asked for are not U0.
calling : (s : State) → among s (U1 ∷ sub_states) ≡ true → same s U0 ≡ false
calling = elim [ U0 ↦ (λ e. never e) | U0p ↦ (λ e. refl) | U1 ↦ (λ e. refl) | U2 ↦ (λ e. refl) | U3 ↦ (λ e. refl) | U4 ↦ (λ e. refl) | U5 ↦ (λ e. refl) | U6 ↦ (λ e. refl) | U2sl ↦ (λ e. refl) | U2wr ↦ (λ e. refl) | U2r ↦ (λ e. refl) | U2ws ↦ (λ e. refl) | U2sr ↦ (λ e. refl) | U2nc ↦ (λ e. refl) ]

not_there : (s : State) → among s (U1 ∷ sub_states) ≡ false → (among s staying ≡ false) × (same s U2r ≡ false)
not_there = elim [ U0 ↦ (λ e. (refl, refl)) | U0p ↦ (λ e. (refl, refl)) | U1 ↦ (λ e. never (sym e)) | U2 ↦ (λ e. (refl, refl)) | U3 ↦ (λ e. (refl, refl)) | U4 ↦ (λ e. (refl, refl)) | U5 ↦ (λ e. (refl, refl)) | U6 ↦ (λ e. (refl, refl)) | U2sl ↦ (λ e. never (sym e)) | U2wr ↦ (λ e. never (sym e)) | U2r ↦ (λ e. never (sym e)) | U2ws ↦ (λ e. never (sym e)) | U2sr ↦ (λ e. never (sym e)) | U2nc ↦ (λ e. never (sym e)) ]

stays-there : (s : State) → among s (U1 ∷ sub_states) ≡ true → same s U2r ≡ false → among s staying ≡ true
stays-there = elim [ U0 ↦ (λ e f. never e) | U0p ↦ (λ e f. never e) | U1 ↦ (λ e f. refl) | U2 ↦ (λ e f. never e) | U3 ↦ (λ e f. never e) | U4 ↦ (λ e f. never e) | U5 ↦ (λ e f. never e) | U6 ↦ (λ e f. never e) | U2sl ↦ (λ e f. refl) | U2wr ↦ (λ e f. refl) | U2r ↦ (λ e f. never (sym f)) | U2ws ↦ (λ e f. refl) | U2sr ↦ (λ e f. refl) | U2nc ↦ (λ e f. refl) ]

-- Where a request may wait, by "fit".
may_request : (s : State) → among s (U1 ∷ sub_states) ≡ true → among s (fitness_of Group).requesting ≡ true
unfolding fitness_of protocol_of
may_request s e = e

requests_there : (s : State) → among s (fitness_of Group).requesting ≡ true → among s (U1 ∷ sub_states) ≡ true
unfolding fitness_of protocol_of
requests_there s e = e

-- U2 and U6 are no states of a group call.
not_broadcast : (s : State) → among s (fitness_of Group).states ≡ true → among s (U2 ∷ U6 ∷ []) ≡ false
unfolding fitness_of protocol_of
not_broadcast = elim [ U0 ↦ (λ e. refl) | U0p ↦ (λ e. refl) | U1 ↦ (λ e. refl) | U2 ↦ (λ e. never e) | U3 ↦ (λ e. refl) | U4 ↦ (λ e. refl) | U5 ↦ (λ e. refl) | U6 ↦ (λ e. never e) | U2sl ↦ (λ e. refl) | U2wr ↦ (λ e. refl) | U2r ↦ (λ e. refl) | U2ws ↦ (λ e. refl) | U2sr ↦ (λ e. refl) | U2nc ↦ (λ e. refl) ]

-- T_term alone fits U5.
term_alone : (t : Timers) → timers_fit_by (fitness_of Group) U5 t ≡ true → t ≡ alone (timer_number Term)
unfolding timers_fit_by fitness_of protocol_of alone
term_alone t e =
    let mm-est : t.mmest ≡ false = not-true _ (and_left (not t.mmest) _ e) in
    let e1 = and_right (not t.mmest) _ e in
    let term : t.term ≡ true = and_left t.term _ e1 in
    let e2 = and_right t.term _ e1 in
    let conn-req : t.connreq ≡ false = not-true _ (and_left (not t.connreq) _ e2) in
    let e3 = and_right (not t.connreq) _ e2 in
    let no_channel : t.nochannel ≡ false = not-true _ (and_left (not t.nochannel) _ e3) in
    let pres : t.pres ≡ false = not-true _ (and_right (not t.nochannel) _ e3) in
    let told : record { mmest = t.mmest; term = t.term; connreq = t.connreq; nochannel = t.nochannel; pres = t.pres } ≡ alone (timer_number Term) = rw (mm-est, term, conn-req, no_channel, pres) in
    told

module _ (x : Context) (fit : fit_of Group x ≡ true) where
  abbrev good : SoundFitness (fitness_of Group)
  good = (rows_sound Group).fitness_sound

  silent_in_u2r : x.state ≡ U2r → x.parameters.comm ≡ false
  unfolding consistent_by fitness_of protocol_of
  silent_in_u2r e = not-true _ (rw e at (fit-consistent Group x fit))

  -- ---- 6.4.1: event 4

  asked : among x.state staying ≡ true → same x.state U0 ≡ false → x.parameters.orig ≡ true → step_value Group x Terminate ≡ took (with_request true x) 0 silent
  unfolding noted
  asked there called owns =
      step_in Group x x.state Terminate 4 seen_4 (λ e. omega (arith, e)) refl (Take (stay_row x.state Note.TerminationPends)) (row_of_4 x x.state ∙ rw (there, owns))
      ∙ row_stays x 4 Note.TerminationPends refl called

  -- COMM true: not in U2r, no request waits where ORIG is true too, and no STATUS waits.
  speaks_elsewhere : x.parameters.comm ≡ true → same x.state U2r ≡ false
  speaks_elsewhere speaks = go (same x.state U2r) refl
    where
      go : (b : Bool) → same x.state U2r ≡ b → same x.state U2r ≡ false
      go true e = never (sym (silent_in_u2r (same-state x.state U2r e)) ∙ speaks)
      go false e = e

  unasked : x.parameters.comm ≡ true → (x.parameters.orig && x.talk.termination) ≡ false
  unfolding sent_in
  unasked speaks = rw speaks at (none_due (fitness_of Group) good x fit)

  no_status : x.parameters.comm ≡ true → x.talk.status ≡ false
  unfolding sent_in
  no_status speaks = rw speaks at (none-asked (fitness_of Group) good x fit)

  -- ORIG true: no value is awaited.
  no_value : x.parameters.orig ≡ true → x.talk.awaiting ≡ false
  no_value owns = go x.talk.awaiting refl
    where
      go : (b : Bool) → x.talk.awaiting ≡ b → x.talk.awaiting ≡ false
      go true e = never (sym (not-true _ (and_right (among x.state (fitness_of Group).awaiting) _ (awaiting-there (fitness_of Group) good x fit e))) ∙ owns)
      go false e = e

  -- With ORIG and COMM true, TERMINATION REQUEST is sent and U5 entered,
  module _ (there : among x.state (U1 ∷ sub_states) ≡ true) (owns : x.parameters.orig ≡ true) where
    term_runs_lem : x.parameters.comm ≡ true → request_timers x.timers ≡ alone (timer_number Term)
    term_runs_lem speaks =
        term_alone (request_timers x.timers) (request_timers-fit (fitness_of Group) good x.state (may_request x.state there) x.parameters speaks (fit-consistent Group x fit) x.timers (fit-timers Group x fit))

    pub sent_at_once : x.parameters.comm ≡ true → step_value Group x Terminate ≡ comes (terminating x) 0 (a_request x)
    unfolding flushed sent_in entering set_row start_row
    sent_at_once speaks =
        asked (stays-there x.state there (speaks_elsewhere speaks)) (calling x.state there) owns ∙ rw (term_runs_lem speaks, owns, speaks, no_status speaks, no_value owns)

    -- without COMM it waits, where the radio is,
    pub waits_for_comm : same x.state U2r ≡ false → x.parameters.comm ≡ false → step_value Group x Terminate ≡ comes (with_request true x) 0 (unsent x)
    waits_for_comm other quiet = asked (stays-there x.state there other) (calling x.state there) owns ∙ unspoken (with_request true x) 0 quiet

  -- and from U2r the radio asks to talk.
  pub waits_to_talk : x.state ≡ U2r → x.parameters.orig ≡ true
      → step_value Group x Terminate ≡ comes (asking_to_talk (with_request true x)) 64 (unsent (asking_to_talk (with_request true x)))
  unfolding carried_out noted awaiting_after entering set_row start_row
  waits_to_talk here owns =
      step_in Group x U2r Terminate 4 seen_4 (λ e. omega (arith, e)) here (Take (talk_row Note.TerminationPends)) (row_of_4 x U2r ∙ rw owns)
      ∙ ap (λ (y : Context). took y 64 silent)
      (ap (λ (y : Context). afterwards y (talk_row Note.TerminationPends) (bare 4)) (unadopted x 4 refl) ∙ talked x Note.TerminationPends (bare 4) here ∙ rw (owns, or-false x.talk.awaiting))
      ∙ unspoken (asking_to_talk (with_request true x)) 64 refl

-- Without ORIG, and in any other state, event 4 has no step.
module _ (x : Context) where
  refused-by : (d : Decision) → d ≡ NoStep → happened_in (step_table Group) x.state x 4 ≡ d → step_value Group x Terminate ≡ no_step x
  unfolding carried_out
  refused-by d e h = step_in Group x x.state Terminate 4 seen_4 (λ e. omega (arith, e)) refl NoStep (h ∙ e)

  pub not_the_originator : x.parameters.orig ≡ false → step_value Group x Terminate ≡ no_step x
  not_the_originator e = refused-by _ (rw (e, cond_same (same x.state U2r) NoStep, cond_same (among x.state staying) NoStep)) (row_of_4 x x.state)

  pub not_from_there : among x.state (U1 ∷ sub_states) ≡ false → step_value Group x Terminate ≡ no_step x
  not_from_there e = let n = not_there x.state e in refused-by _ (rw (n.0, n.1)) (row_of_4 x x.state)

  -- ---- "While the request is pending, the request may be deleted by higher layers": event 36

  pub nothing-to-take-back : x.talk.termination ≡ false → step_value Group x TerminationDeleted ≡ no_step x
  unfolding carried_out
  nothing-to-take-back e =
      step_in Group x x.state TerminationDeleted 36 seen_36 (λ e. omega (arith, e)) refl NoStep (row_of_36 x x.state ∙ rw (e, cond_same (among x.state (U1 ∷ sub_states)) NoStep))

  pub taken_back : fit_of Group x ≡ true → x.talk.termination ≡ true → step_value Group x TerminationDeleted ≡ comes (with_request false x) 0 (unsent x)
  unfolding noted sent_in
  taken_back fit waits =
      let there : among x.state (U1 ∷ sub_states) ≡ true = requests_there x.state (requesting-there (fitness_of Group) (rows_sound Group).fitness_sound x fit waits) in
      step_in Group x x.state TerminationDeleted 36 seen_36 (λ e. omega (arith, e)) refl (Take (stay_row x.state Note.TerminationDropped)) (row_of_36 x x.state ∙ rw (there, waits))
      ∙ row_stays x 36 Note.TerminationDropped refl (calling x.state there)
      ∙ undue (with_request false x) 0 (none-asked (fitness_of Group) (rows_sound Group).fitness_sound x fit) (rw (and-false x.parameters.orig, and-false x.parameters.comm))

-- ---- 6.5.1.1: GET STATUS

module _ (x : Context) (fit : fit_of Group x ≡ true) (called : same x.state U0 ≡ false) (mode value : ℕ) (identity : Option Run) where
  abbrev asks : Seen
  asks = heard GET-STATUS value no_reference 0

  abbrev asking : Settled
  asking = step_value Group x (Received mode value (GetStatus identity))

  by_row : (d : Decision) → heard_in (step_table Group) x.state x GET-STATUS ≡ d → asking ≡ carried_out (fitness_of Group) x d asks
  unfolding step_by seen_of seen_message
  by_row d h = ap (λ (d : Decision). carried_out (fitness_of Group) x d asks) (sym (heard_in_state (step_table Group) x.state x GET-STATUS d refl (sym h)))

  adopted_is : adopted x asks ≡ given value x
  unfolding adopted
  adopted_is = ap (λ (t : Bool). cond t (with_value value x) x) (and-true x.talk.awaiting)

  -- What holds of the context, whichever value it has then.
  either-value : (P : Context → Type 0) → P (with_value value x) → P x → P (given value x)
  either-value P a b = at_cond P x.talk.awaiting (with_value value x) x (λ e. a) (λ e. b)

  stays-asked : same x.state U2r ≡ false → asking ≡ took (with_status true (given value x)) 0 silent
  unfolding carried_out noted
  stays-asked other =
      by_row (Take (stay_row x.state Note.StatusPends)) (row_of_status x x.state ∙ rw (called, other, not_broadcast x.state (fit-known Group x fit)))
      ∙ ap (λ (y : Context). took y 0 silent)
      (ap (λ (y : Context). afterwards y (stay_row x.state Note.StatusPends) asks) adopted_is
      ∙ stayed (given value x) x.state Note.StatusPends asks (either-value (λ (y : Context). y.state ≡ x.state) refl refl) called)

  -- With COMM true it is answered with a STATUS that tells of the context as it is,
  pub status_at_once : x.parameters.comm ≡ true → asking ≡ comes (given value x) 0 (a_status x)
  status_at_once speaks =
      stays-asked (speaks_elsewhere x fit speaks)
      ∙ either-value (λ (y : Context). took (with_status true y) 0 silent ≡ comes y 0 (a_status x)) (told_at_once (with_value value x) speaks (no_status x fit speaks) (unasked x fit speaks))
      (told_at_once x speaks (no_status x fit speaks) (unasked x fit speaks))

  -- without COMM the STATUS waits, where the radio is,
  pub status_waits : same x.state U2r ≡ false → x.parameters.comm ≡ false → asking ≡ comes (with_status true (given value x)) 0 (unsent x)
  status_waits other quiet =
      stays-asked other
      ∙ either-value (λ (y : Context). took (with_status true y) 0 silent ≡ comes (with_status true y) 0 (unsent x)) (unspoken (with_status true (with_value value x)) 0 quiet)
      (unspoken (with_status true x) 0 quiet)

  -- and from U2r the radio asks to talk.
  pub status_waits_to_talk : x.state ≡ U2r → asking ≡ comes (asking_to_answer (given value x)) 64 (unsent (asking_to_answer (given value x)))
  unfolding carried_out noted awaiting_after entering set_row start_row
  status_waits_to_talk here =
      by_row (Take (talk_row Note.StatusPends)) (ap (λ (s : State). heard_in (step_table Group) s x GET-STATUS) here ∙ row_of_status x U2r)
      ∙ ap (λ (y : Context). took (afterwards y (talk_row Note.StatusPends) asks) 64 silent) adopted_is ∙ go x.talk.awaiting refl
    where
      go : (b : Bool) → x.talk.awaiting ≡ b
          → (let y : Context = cond b (with_value value x) x in
          took (afterwards y (talk_row Note.StatusPends) asks) 64 silent ≡ comes (asking_to_answer y) 64 (unsent (asking_to_answer y)))
      go true e = ap (λ (y : Context). took y 64 silent) (talked (with_value value x) Note.StatusPends asks here) ∙ unspoken (asking_to_answer (with_value value x)) 64 refl
      go false e = ap (λ (y : Context). took y 64 silent) (talked x Note.StatusPends asks here ∙ rw e) ∙ unspoken (asking_to_answer x) 64 refl
