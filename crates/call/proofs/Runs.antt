-- Runs of a group call, in so many words. What waits goes out with the first step behind which it can, exactly once: a request where ORIG and COMM are both true, a STATUS where COMM
-- is, and the STATUS before the request. The flag that is expected goes by who chose the value, and stays so until U0.
use Prim.Native.Nat.{ℕ, ◌+◌}
use mathlib.Core.Path.{◌≡◌, refl, sym, ap, subst, ◌∙◌}
use mathlib.Core.List.{List, [], ◌∷◌, ◌++◌}
use mathlib.Core.Logic.{◌⊎◌, inl, inr}
use mathlib.Core.Bool.{Bool, true, false, cond, not, ◌&&◌, ◌||◌, and-true, and-false, or-false}
use lib.Dec.{eqb, leb}
use native.Mathlib.Omega.{arith}
use borrow.Author.Tests.{not-true}
use Rattle.octets.proofs.Choice.{at_cond, never}
use Rattle.codes.specs.declared.state.State.{State}
use Rattle.codes.specs.declared.state.State.TheVariants.{U0, U5}
use Rattle.octets.specs.declared.Reference.{Reference}
use Rattle.version.specs.declared.Table.TheVariants.{Group}
use Rattle.version.specs.Version.{protocol_of}
use Rattle.context.specs.declared.Context.{Context}
use Rattle.context.specs.declared.Chooser.{Chooser}
use Rattle.context.specs.declared.Chooser.TheVariants.{Neither, Us, Cell}
use Rattle.context.specs.Context.{start_row, set_row, entering, cleared}
use Rattle.context.specs.declared.Remembered.{Remembered}
use Rattle.context.specs.Remembered.{remembering, returning}
use Rattle.context.specs.States.{same, among}
use Rattle.context.specs.Talk.{flag_by, flag_of}
use Rattle.context.proofs.Whole.{and_left, and_both, if_so, in_states, at_state, of_remembered, at_remembered}
use Rattle.fitness.specs.Fitness.{remembered_fit_by, chooser_fit_by}
use Rattle.fitness.specs.Tables.{fitness_of, fit_of}
use Rattle.fitness.proofs.Fit.{fit_chooser}
use Rattle.fitness.proofs.Sound.{Sound as SoundFitness}
use Rattle.fitness.proofs.Tables.{fit-known, fit_remembered, cleared-fit}
use Rattle.transitions.specs.declared.Send.TheVariants as Send
use Rattle.transitions.specs.Table.{step_table, happened_in, decided_in, decided_by}
use Rattle.transitions.proofs.Sound.{rows_sound}
use Rattle.call.specs.declared.Due.{Due}
use Rattle.call.specs.declared.Due.TheVariants.{Steps}
use Rattle.call.specs.declared.Event.{Event}
use Rattle.call.specs.declared.Event.TheVariants.{SetUp, ImmediateSetUp, Notified}
use Rattle.call.specs.declared.Sending.{Sending}
use Rattle.call.specs.declared.Sending.TheVariants.{OfRow, Status, ErrorStatus}
use Rattle.call.specs.declared.Sent.{Sent}
use Rattle.call.specs.declared.Settled.{Settled}
use Rattle.call.specs.Events.{seen_of}
use Rattle.call.specs.Talk.{noted, adopted, awaiting_after, sent_in, answered, requested, flushed}
use Rattle.call.specs.Step.{parameters_after, afterwards, silent, carried_out, step_by}
use Rattle.call.specs.Due.{settled_by, settled}
use Rattle.call.specs.Waiting.{sends_request, both_true, number_due, asks_status, leads_to, how_often, Throughout, Each}
use Rattle.call.proofs.Kept.{DueFit, none_due, settled-fit}
use Rattle.call.proofs.Pending.{cleared-flushed}
use Rattle.call.proofs.Together.{Together, together}
use Rattle.call.proofs.Leads.{Leads, leads, none_of_a_row}

-- ---- what is sent of a context

either_way : (a b : Bool) → (b && (a && true)) ≡ (a && b)
either_way true true = refl
either_way true false = refl
either_way false true = refl
either_way false false = refl

-- A STATUS that is sent waits no longer.
told-once : (a b : Bool) → (a && b) ≡ true → (b && not (a && b)) ≡ false
told-once true b e = rw e
told-once false b e = never e

untold : (a b : Bool) → (a && b) ≡ false → b ≡ true → (b && not (a && b)) ≡ true
untold a b e f = rw (e, f)

never-told : (a b : Bool) → b ≡ false → (a && b) ≡ false
never-told a b e = rw (e, and-false a)

module _ (y : Context) where
  pub chooser_flushed : (flushed y).talk.chooser ≡ y.talk.chooser
  unfolding flushed
  chooser_flushed = at_cond (λ (z : Context). z.talk.chooser ≡ y.talk.chooser) (sent_in y).request _ _ (λ e. refl) (λ e. refl)

  status-flushed : (flushed y).talk.status ≡ (y.talk.status && not (sent_in y).status)
  unfolding flushed
  status-flushed = at_cond (λ (z : Context). z.talk.status ≡ (y.talk.status && not (sent_in y).status)) (sent_in y).request _ _ (λ e. refl) (λ e. refl)

  request_flushed : (sent_in y).request ≡ false → (flushed y).talk.termination ≡ y.talk.termination
  unfolding flushed
  request_flushed e = rw e

  requested-there : (sent_in y).request ≡ true → flushed y ≡ requested (answered (sent_in y).status y)
  unfolding flushed
  requested-there e = rw e

module _ (x : Context) (fit : fit_of Group x ≡ true) (due : Due) where
  abbrev good : SoundFitness (fitness_of Group)
  good = (rows_sound Group).fitness_sound

  abbrev r : Settled
  r = settled Group x due

  -- What holds in U0, and wherever a step leads, holds behind it.
  of_step : (P : Context → Sent → Type 0) → P cleared (sent_in cleared) → ((y : Context) → Leads (number_due due) (asks_status due) x y → P (flushed y) (sent_in y)) → P r.context r.sent
  of_step P ended leading = let (y, a, b, c) = leads x fit due in subst (λ k. P r.context k) (sym b) (subst (λ z. P z (sent_in y)) (sym a) (go y c))
    where
      go : (y : Context) → (y ≡ cleared) ⊎ Leads (number_due due) (asks_status due) x y → P (flushed y) (sent_in y)
      go y (inl e) = subst (λ z. P (flushed z) (sent_in z)) (sym e) (subst (λ z. P z (sent_in cleared)) (sym (cleared-flushed (fitness_of Group) good)) ended)
      go y (inr l) = leading y l

  -- ---- a request that waits

  -- It goes out exactly if ORIG and COMM are both true behind the step,
  pub request_goes : x.talk.termination ≡ true → r.sent.request ≡ both_true r
  unfolding sent_in cleared
  request_goes waits = of_step (λ c k. k.request ≡ (k.parameters.orig && k.parameters.comm)) refl (λ y l. go y l y.talk.termination refl)
    where
      go : (y : Context) → Leads (number_due due) (asks_status due) x y → (b : Bool) → y.talk.termination ≡ b → (sent_in y).request ≡ (y.parameters.orig && y.parameters.comm)
      go y l true e = rw e (either_way y.parameters.orig y.parameters.comm)
      go y l false e =
          let same-parameters : y.parameters ≡ x.parameters = l.request_dropped waits e in
          let none : (x.parameters.comm && (x.parameters.orig && x.talk.termination)) ≡ false = none_due (fitness_of Group) good x fit in
          rw (e, and-false y.parameters.orig, and-false y.parameters.comm, same-parameters, ← either_way x.parameters.orig x.parameters.comm) (sym (rw waits at none))

  -- and else waits on, unless it is taken back or the call ends.
  pub request_stays : x.talk.termination ≡ true → eqb (number_due due) 36 ≡ false → r.sent.request ≡ false → same r.context.state U0 ≡ false → r.context.talk.termination ≡ true
  unfolding cleared
  request_stays waits other =
      of_step (λ c k. k.request ≡ false → same c.state U0 ≡ false → c.talk.termination ≡ true) (λ e f. never (sym f)) (λ y l e f. request_flushed y e ∙ l.request_kept other waits)

  -- Where one is sent, U5 is entered, the state that it was sent from is remembered, and none waits.
  pub request_sent : r.sent.request ≡ true → (r.context.state ≡ U5) × (r.context.remembered ≡ remembering r.sent.state) × (r.context.talk.termination ≡ false)
  unfolding sent_in cleared
  request_sent =
      of_step (λ c k. k.request ≡ true → (c.state ≡ U5) × (c.remembered ≡ remembering k.state) × (c.talk.termination ≡ false)) (λ e. never e)
      (λ y l e. subst (λ c. (c.state ≡ U5) × (c.remembered ≡ remembering y.state) × (c.talk.termination ≡ false)) (sym (requested-there y e)) (refl, refl, refl))

  -- Only event 4 makes one wait, or sends one where none waited.
  pub request_asked : eqb (number_due due) 4 ≡ false → x.talk.termination ≡ false → (r.sent.request ≡ false) × (r.context.talk.termination ≡ false)
  unfolding sent_in cleared
  request_asked other none =
      of_step (λ c k. (k.request ≡ false) × (c.talk.termination ≡ false)) (refl, refl)
      (λ y l.
      let gone : y.talk.termination ≡ false = l.request_new other none in
      let unsent : (y.parameters.comm && (y.parameters.orig && y.talk.termination)) ≡ false = rw (gone, and-false y.parameters.orig, and-false y.parameters.comm) in
      (unsent, request_flushed y unsent ∙ gone))

  -- ---- a STATUS that waits

  -- It goes out exactly if COMM is true behind the step, and else waits on, unless the call ends.
  pub status_goes : x.talk.status ≡ true → r.sent.status ≡ r.sent.parameters.comm
  unfolding sent_in cleared
  status_goes waits = of_step (λ c k. k.status ≡ k.parameters.comm) refl (λ y l. rw (l.status-kept waits) (and-true y.parameters.comm))

  pub status-stays : x.talk.status ≡ true → r.sent.status ≡ false → same r.context.state U0 ≡ false → r.context.talk.status ≡ true
  unfolding sent_in cleared
  status-stays waits =
      of_step (λ c k. k.status ≡ false → same c.state U0 ≡ false → c.talk.status ≡ true) (λ e f. never (sym f))
      (λ y l e f. status-flushed y ∙ untold y.parameters.comm y.talk.status e (l.status-kept waits))

  pub status-sent : r.sent.status ≡ true → r.context.talk.status ≡ false
  unfolding sent_in cleared
  status-sent = of_step (λ c k. k.status ≡ true → c.talk.status ≡ false) (λ e. refl) (λ y l e. status-flushed y ∙ told-once y.parameters.comm y.talk.status e)

  -- Only GET STATUS makes one wait, or sends one where none waited.
  pub status-asked : asks_status due ≡ false → x.talk.status ≡ false → (r.sent.status ≡ false) × (r.context.talk.status ≡ false)
  unfolding sent_in cleared
  status-asked other none =
      of_step (λ c k. (k.status ≡ false) × (c.talk.status ≡ false)) (refl, refl)
      (λ y l.
      let gone : y.talk.status ≡ false = l.status_new other none in
      (never-told y.parameters.comm y.talk.status gone, status-flushed y ∙ rw gone))

  -- ---- both

  -- A STATUS that waited goes with the request; and the row sends nothing itself, so that the two are all that is sent.
  pub behind_a_status : x.talk.status ≡ true → r.sent.request ≡ true → r.sent.status ≡ true
  unfolding sent_in cleared
  behind_a_status waits =
      of_step (λ c k. k.request ≡ true → k.status ≡ true) (λ e. never e) (λ y l e. rw (l.status-kept waits, and_left y.parameters.comm _ e))

  pub nothing-before : r.sent.request ≡ true → r.sends ≡ silent
  nothing-before e = go r.sends (together Group x fit due)
    where
      go : (m : Sending) → Together r m → m ≡ silent
      go (OfRow Send.Nothing) k = refl
      go (OfRow Send.ImmediateSetup) k = never (sym k.1 ∙ e)
      go (OfRow Send.Setup) k = never (sym k ∙ e)
      go (OfRow Send.TerminationRequest) k = never (sym k.1 ∙ e)
      go (Status cause) k = never (sym k.1 ∙ e)
      go (ErrorStatus cause) k = never (sym k.1.1 ∙ e)

  -- ---- who chose the value

  pub chooser_stays : same x.state U0 ≡ false → same r.context.state U0 ≡ false → r.context.talk.chooser ≡ x.talk.chooser
  unfolding cleared
  chooser_stays called = of_step (λ c k. same c.state U0 ≡ false → c.talk.chooser ≡ x.talk.chooser) (λ f. never (sym f)) (λ y l f. chooser_flushed y ∙ l.chooser_kept called)

-- ---- runs

-- Each that is due carries a value of at most 6, as those do that no step refuses.
abbrev pub InRange : List Due → Type 0
InRange = Each DueFit

pub run-fit : (x : Context) → fit_of Group x ≡ true → (run : List Due) → InRange run → fit_of Group (leads_to x run) ≡ true
run-fit x fit [] ranged = fit
run-fit x fit (due ∷ more) ranged = run-fit (settled Group x due).context (settled-fit Group x fit due ranged.0) more ranged.1

-- What holds of each context that a run comes to holds of the last.
at_the_end : (P : Context → Type 0) (x : Context) → P x → (run : List Due) → Throughout P x run → P (leads_to x run)
at_the_end P x p [] all = p
at_the_end P x p (due ∷ more) all = at_the_end P (settled Group x due).context all.0 more all.1

one_more_lem : (t : Bool) (n : ℕ) → n ≡ 0 → cond t 1 0 + n ≡ cond t 1 0
one_more_lem true n e = rw e
one_more_lem false n e = rw e

-- Over something that waits in a context and goes with a step: it waits no longer where it goes, and where it does not wait it neither goes nor waits unless it is asked for anew.
module _ (waits : Context → Bool) (goes : Settled → Bool) (asked : Due → Bool)
    (gone : (x : Context) → fit_of Group x ≡ true → (due : Due) → goes (settled Group x due) ≡ true → waits (settled Group x due).context ≡ false)
    (none : (x : Context) → fit_of Group x ≡ true → (due : Due) → asked due ≡ false → waits x ≡ false → (goes (settled Group x due) ≡ false) × (waits (settled Group x due).context ≡ false)) where
  -- While it waits it does not go,
  not_yet : (x : Context) → fit_of Group x ≡ true → (run : List Due) → InRange run → Throughout (λ y. waits y ≡ true) x run → how_often goes x run ≡ 0
  not_yet x fit [] ranged waiting = refl
  not_yet x fit (due ∷ more) ranged waiting =
      one_more_lem (goes (settled Group x due)) _ (not_yet (settled Group x due).context (settled-fit Group x fit due ranged.0) more ranged.1 waiting.1)
      ∙ rw (still (goes (settled Group x due)) refl)
    where
      still : (b : Bool) → goes (settled Group x due) ≡ b → goes (settled Group x due) ≡ false
      still true e = never (sym (gone x fit due e) ∙ waiting.0)
      still false e = e

  -- and once it has gone it does not go again.
  no_more : (x : Context) → fit_of Group x ≡ true → waits x ≡ false → (run : List Due) → InRange run → Each (λ due. asked due ≡ false) run → how_often goes x run ≡ 0
  no_more x fit e [] ranged unasked = refl
  no_more x fit e (due ∷ more) ranged unasked =
      let (a, b) = none x fit due unasked.0 e in
      one_more_lem (goes (settled Group x due)) _ (no_more (settled Group x due).context (settled-fit Group x fit due ranged.0) b more ranged.1 unasked.1) ∙ rw a

  often_both : (x : Context) (run more : List Due) → how_often goes x (run ++ more) ≡ how_often goes x run + how_often goes (leads_to x run) more
  often_both x [] more = omega arith
  often_both x (due ∷ run) more =
      let rest : how_often goes (settled Group x due).context (run ++ more) ≡ how_often goes (settled Group x due).context run + how_often goes (leads_to (settled Group x due).context run) more
      = often_both (settled Group x due).context run more in
      omega arith

  -- So it goes exactly once.
  once : (x : Context) → fit_of Group x ≡ true → (before : List Due) → InRange before → Throughout (λ y. waits y ≡ true) x before
      → (due : Due) → DueFit due → goes (settled Group (leads_to x before) due) ≡ true
      → (more : List Due) → InRange more → Each (λ due. asked due ≡ false) more → how_often goes x (before ++ (due ∷ more)) ≡ 1
  once x fit before ranged waiting due fits goes-there more ranged-more unasked =
      let y : Context = leads_to x before in
      let y-fit : fit_of Group y ≡ true = run-fit x fit before ranged in
      let last : how_often goes y (due ∷ more) ≡ cond (goes (settled Group y due)) 1 0
      = one_more_lem (goes (settled Group y due)) _ (no_more (settled Group y due).context (settled-fit Group y y-fit due fits) (gone y y-fit due goes-there) more ranged-more unasked) in
      often_both x before (due ∷ more) ∙ rw (not_yet x fit before ranged waiting, last, goes-there)

-- A termination request that waits goes out with the first step behind which ORIG and COMM are both true, and no other TERMINATION REQUEST goes out until event 4 asks for one.
request_is : (x : Context) (due : Due) → sends_request (settled Group x due) ≡ (settled Group x due).sent.request
request_is x due = ap (λ (t : Bool). (settled Group x due).sent.request || t) (none_of_a_row x due) ∙ or-false (settled Group x due).sent.request

pub request_once : (x : Context) → fit_of Group x ≡ true → x.talk.termination ≡ true
    → (before : List Due) → InRange before → Throughout (λ y. y.talk.termination ≡ true) x before
    → (due : Due) → DueFit due → both_true (settled Group (leads_to x before) due) ≡ true
    → (more : List Due) → InRange more → Each (λ due. eqb (number_due due) 4 ≡ false) more → how_often sends_request x (before ++ (due ∷ more)) ≡ 1
request_once x fit waits before ranged waiting due fits both =
    once (λ y. y.talk.termination) sends_request (λ due. eqb (number_due due) 4) (λ x f due e. (request_sent x f due (sym (request_is x due) ∙ e)).2)
    (λ x f due other none. let (a, b) = request_asked x f due other none in (request_is x due ∙ a, b)) x fit before ranged waiting due fits
    (request_is (leads_to x before) due
    ∙ request_goes (leads_to x before) (run-fit x fit before ranged) due (at_the_end (λ y. y.talk.termination ≡ true) x waits before waiting) ∙ both)

-- So does a STATUS, with the first step behind which COMM is true, until another GET STATUS asks for it.
pub status-once : (x : Context) → fit_of Group x ≡ true → x.talk.status ≡ true
    → (before : List Due) → InRange before → Throughout (λ y. y.talk.status ≡ true) x before
    → (due : Due) → DueFit due → (settled Group (leads_to x before) due).sent.parameters.comm ≡ true
    → (more : List Due) → InRange more → Each (λ due. asks_status due ≡ false) more → how_often (λ r. r.sent.status) x (before ++ (due ∷ more)) ≡ 1
status-once x fit waits before ranged waiting due fits speaks =
    once (λ y. y.talk.status) (λ r. r.sent.status) asks_status status-sent status-asked x fit before ranged waiting due fits
    (status_goes (leads_to x before) (run-fit x fit before ranged) due (at_the_end (λ y. y.talk.status ≡ true) x waits before waiting) ∙ speaks)

-- ---- the flag that is expected

-- Outside U0 one side has chosen the value, by "fit".
abbrev one_chose : State → Remembered → Bool
one_chose s r = same s U0 || (not (among s (fitness_of Group).states && remembered_fit_by (fitness_of Group) s r) || not (chooser_fit_by (fitness_of Group) s r Neither))

one_chose_lem : in_states (λ s. of_remembered (one_chose s)) ≡ true
unfolding fitness_of protocol_of remembered_fit_by chooser_fit_by returning
one_chose_lem = refl

-- It is 1 where we chose the value, and 0 where the cell did, whatever ORIG is: in the sub-states of U2 and in U5 as everywhere.
pub flag_expected : (x : Context) → fit_of Group x ≡ true → same x.state U0 ≡ false → ((x.talk.chooser ≡ Us) × (flag_of x ≡ true)) ⊎ ((x.talk.chooser ≡ Cell) × (flag_of x ≡ false))
unfolding flag_of flag_by
flag_expected x fit called = go x.talk.chooser refl
  where
    chosen : (same x.state U0 || (not (among x.state (fitness_of Group).states && remembered_fit_by (fitness_of Group) x.state x.remembered) || not (chooser_fit_by (fitness_of Group) x.state x.remembered Neither))) ≡ true
    chosen = at_remembered (one_chose x.state) (at_state (λ s. of_remembered (one_chose s)) one_chose_lem x.state) x.remembered

    go : (c : Chooser) → x.talk.chooser ≡ c → ((x.talk.chooser ≡ Us) × (flag_of x ≡ true)) ⊎ ((x.talk.chooser ≡ Cell) × (flag_of x ≡ false))
    go Neither e =
        let k : (not (among x.state (fitness_of Group).states && remembered_fit_by (fitness_of Group) x.state x.remembered) || not (chooser_fit_by (fitness_of Group) x.state x.remembered Neither)) ≡ true
        = rw called at chosen in
        let n = if_so (among x.state (fitness_of Group).states && remembered_fit_by (fitness_of Group) x.state x.remembered) _ k (and_both _ _ (fit-known Group x fit) (fit_remembered Group x fit)) in
        never (sym (not-true _ n) ∙ (rw e at (fit_chooser (fitness_of Group) x fit)))
    go Us e = inl (e, rw e)
    go Cell e = inr (e, rw e)

-- It stays so until U0, whatever CONNECT or SET PARAMETER makes of ORIG on the way.
chooser_throughout : (x : Context) → fit_of Group x ≡ true → same x.state U0 ≡ false → (run : List Due) → InRange run → Throughout (λ y. same y.state U0 ≡ false) x run
    → (leads_to x run).talk.chooser ≡ x.talk.chooser
chooser_throughout x fit called [] ranged calling = refl
chooser_throughout x fit called (due ∷ more) ranged calling =
    chooser_throughout (settled Group x due).context (settled-fit Group x fit due ranged.0) calling.0 more ranged.1 calling.1 ∙ chooser_stays x fit due called calling.0

flag_of_us : (y : Context) → y.talk.chooser ≡ Us → flag_of y ≡ true
unfolding flag_of flag_by
flag_of_us y e = rw e

flag_of_cell : (y : Context) → y.talk.chooser ≡ Cell → flag_of y ≡ false
unfolding flag_of flag_by
flag_of_cell y e = rw e

pub flag-kept : (x : Context) → fit_of Group x ≡ true → same x.state U0 ≡ false → (run : List Due) → InRange run → Throughout (λ y. same y.state U0 ≡ false) x run → flag_of (leads_to x run) ≡ flag_of x
flag-kept x fit called run ranged calling = go (flag_expected x fit called)
  where
    go : ((x.talk.chooser ≡ Us) × (flag_of x ≡ true)) ⊎ ((x.talk.chooser ≡ Cell) × (flag_of x ≡ false)) → flag_of (leads_to x run) ≡ flag_of x
    go (inl e) = flag_of_us (leads_to x run) (chooser_throughout x fit called run ranged calling ∙ e.0) ∙ sym e.1
    go (inr e) = flag_of_cell (leads_to x run) (chooser_throughout x fit called run ranged calling ∙ e.0) ∙ sym e.1

-- "events 1 and 2 ours, 10 the cell's"
module _ (value : ℕ) (small : leb value 6 ≡ true) (reference : Reference) (run : List Due) (ranged : InRange run) where
  abbrev begun : Event → Context
  begun event = (settled Group cleared (Steps event)).context

  abbrev Lasts : Event → Type 0
  Lasts event = Throughout (λ y. same y.state U0 ≡ false) (begun event) run

  -- The event begins a call with this flag.
  abbrev Begins : Event → Bool → Type 0
  Begins event flag = DueFit (Steps event) × (same (begun event).state U0 ≡ false) × (flag_of (begun event) ≡ flag)

  three-begin : Begins (SetUp value reference) true × Begins (ImmediateSetUp value reference) true × Begins (Notified value reference) false
  unfolding settled_by step_by seen_of decided_by decided_in happened_in step_table protocol_of carried_out afterwards parameters_after entering set_row start_row cleared adopted noted awaiting_after flushed sent_in flag_of flag_by
  three-begin = ((small, refl, refl), (small, refl, refl), (small, refl, refl))

  flag_lasts : (event : Event) (flag : Bool) → Begins event flag → Lasts event → flag_of (leads_to cleared (Steps event ∷ run)) ≡ flag
  flag_lasts event flag begins lasts = flag-kept (begun event) (settled-fit Group cleared (cleared-fit Group) (Steps event) begins.0) begins.1 run ranged lasts ∙ begins.2

  pub set_up_flag : Lasts (SetUp value reference) → flag_of (leads_to cleared (Steps (SetUp value reference) ∷ run)) ≡ true
  set_up_flag = flag_lasts (SetUp value reference) true three-begin.0

  pub immediate-flag : Lasts (ImmediateSetUp value reference) → flag_of (leads_to cleared (Steps (ImmediateSetUp value reference) ∷ run)) ≡ true
  immediate-flag = flag_lasts (ImmediateSetUp value reference) true three-begin.1

  pub notified-flag : Lasts (Notified value reference) → flag_of (leads_to cleared (Steps (Notified value reference) ∷ run)) ≡ false
  notified-flag = flag_lasts (Notified value reference) false three-begin.2
