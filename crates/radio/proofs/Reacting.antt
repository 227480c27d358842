-- What an event in range comes to: that a fit context stays fit, and the two ways of the step.
use Prim.Native.Nat.{ℕ, ◌/◌, ◌%◌, ◌≤◌}
use mathlib.Core.Path.{◌≡◌, refl, sym, ◌∙◌}
use mathlib.Core.List.{List}
use mathlib.Core.Bool.{Bool, true, false, cond, ◌||◌}
use lib.Dec.{eqb, leb}
use lib.ListN.{length, get_or}
use lib.Seq.{sets}
use borrow.Author.Tests.{eq-eqb, ne_eqb, eqb-true, leb-true, le-leb}
use Rattle.octets.proofs.Choice.{at_cond}
use Rattle.octets.specs.declared.Reference.{Reference}
use Rattle.version.specs.declared.Table.{Table}
use Rattle.version.specs.Version.{has_event, greatest_actions, protocol_of}
use Rattle.context.specs.declared.Context.{Context}
use Rattle.codes.specs.Attributes.{parameters_of}
use Rattle.fitness.specs.Tables.{fitness_of, consistent, fit_of}
use Rattle.fitness.proofs.Tables.{fit-value}
use Rattle.call.specs.declared.Due.{Due}
use Rattle.call.specs.declared.Due.TheVariants.{Steps, Refused}
use Rattle.call.specs.declared.Event.{Event}
use Rattle.call.specs.declared.Settled.{Settled}
use Rattle.call.specs.declared.Event.TheVariants.{Received}
use Rattle.call.specs.declared.Seen.{Seen}
use Rattle.call.specs.Step.{ignored, no_step, reported_with, status_told, parameters_set, carried_out, step_by}
use Rattle.call.specs.Due.{settled_by, settled}
use Rattle.transitions.specs.declared.Decision.{Decision}
use Rattle.transitions.specs.declared.Decision.TheVariants.{Take, NoStep, Ignore, Report, TellStatus, SetParameters}
use Rattle.transitions.specs.Table.{step_table}
use Rattle.transitions.proofs.Sound.{rows_sound}
use Rattle.transitions.proofs.Decided.{Plain, event-plain}
use Rattle.call.specs.Events.{bare, carrying, seen_of}
use Rattle.call.proofs.Kept.{DueFit, received_value, settled-fit}
use Rattle.message.specs.declared.Own.{Own}
use Rattle.codes.specs.declared.protocol.Protocol.{Protocol}
use Rattle.reply.specs.Reply.{reply_of, put_all}
use Rattle.reply.proofs.Fits.{Orderly, put_is_reply}
use Rattle.received.specs.Due.{due_of}
use Rattle.received.proofs.Rules.{fits-small, every_due}
use Rattle.step_arguments.specs.Arguments.{out_of_range}
use Rattle.radio.specs.declared.Happened.{Happened}
use Rattle.radio.specs.declared.Stepped.{Stepped}
use Rattle.std.specs.Prelude.{Option, Some, None}
use Rattle.radio.specs.Step.{event_of, told_due, due_to, reacted_to, Reaction, refused, reacted, step_of, taken_of, refusal_of, shown}
use Rattle.radio.proofs.Numbers.{IsOf, NoMessage, event_of_number, no_message}
use Rattle.radio.proofs.Range.{InRange, in_range, value-most}

module _ (table : Table) where
  -- The three ways of `due_to`.
  module _ (identity : List ℕ) (x : Context) (h : Happened) (s : List ℕ) (r : Due) where
    pub by-message : h.number ≡ 18 → r ≡ due_of table identity x h.mode s → r ≡ due_to table identity x h s
    unfolding due_to
    by-message e p = rw (eq-eqb h.number 18 e) p

    pub by-event : (h.number ≡ 18 → ⊥) → (event : Event) → event_of h.number h.value h.reference ≡ Some event → r ≡ Steps event → r ≡ due_to table identity x h s
    unfolding due_to told_due
    by-event n event e p = rw (ne_eqb h.number 18 n, e) p

    pub by-none : (h.number ≡ 18 → ⊥) → event_of h.number h.value h.reference ≡ None → r ≡ Refused → r ≡ due_to table identity x h s
    unfolding due_to told_due
    by-none n e p = rw (ne_eqb h.number 18 n, e) p

  -- What is due where an event in range happens carries a value in range: a message none,
  -- and any other event what it was given.
  told_fit : (n v : ℕ) (r : Reference) → ((eqb n 1 || (eqb n 2 || eqb n 10)) ≡ true → leb v 6 ≡ true) → DueFit (told_due (event_of n v r))
  unfolding told_due
  told_fit n v r h = go (event_of n v r) (event_of_number n v r)
    where
      given-or-none : (c : Bool) → (c ≡ true → leb v 6 ≡ true) → leb (cond c (carrying n v r) (bare n)).value 6 ≡ true
      given-or-none true k = k refl
      given-or-none false k = refl

      go : (t : Option Event) → IsOf n v r t → DueFit (told_due t)
      go (Some event) p = rw p (given-or-none (eqb n 1 || (eqb n 2 || eqb n 10)) h)
      go None p = tt

  -- A step from a fit context ends in a fit one.
  pub react_fit : (identity : List ℕ) (x : Context) (h : Happened) (s : List ℕ) (key : ℕ) → fit_of table x ≡ true
      → out_of_range (has_event table h.number) key (length identity) h.number h.value h.mode ≡ false → fit_of table (reacted_to table identity x h s).context ≡ true
  unfolding reacted_to due_to
  react_fit identity x h s key fit range =
      settled-fit table x fit _
      (at_cond DueFit (eqb h.number 18) _ _
      (λ e. every_due DueFit (λ reason. tt) x s (λ fits cause. tt)
      (λ fits mode m. received_value mode (get_or s 0 0 / 16 % 8) m (le-leb _ _ (fits-small x (get_or s 0 0) (leb-true _ _ (fit-value table x fit)) fits))) table identity h.mode)
      (λ e. told_fit h.number h.value h.reference (value-most (has_event table h.number) key (length identity) h range)))

  -- A report carries a value of at most 6, where one is awaited that of the message, and nothing that was pending; and no row sends a STATUS of its own.
  module _ (x : Context) (s : List ℕ) where
    abbrev Ordered : Settled → Type 0
    Ordered t = Orderly s t.context t.sent t.sends

    module _ (small : x.talk.awaiting ≡ true → get_or s 0 0 / 16 % 8 ≤ 6) where
      reported_ordered : (cause : ℕ) → Ordered (reported_with cause x)
      unfolding reported_with ignored
      reported_ordered cause = at_cond Ordered x.parameters.comm _ _ (λ e. (small, refl, refl)) (λ e. tt)

      carried_ordered : (d : Decision) (e : Seen) → Ordered (carried_out (fitness_of table) x d e)
      unfolding carried_out no_step ignored status_told parameters_set
      carried_ordered (Take d) e = tt
      carried_ordered NoStep e = tt
      carried_ordered Ignore e = tt
      carried_ordered (Report cause) e = reported_ordered cause
      carried_ordered TellStatus e = at_cond Ordered x.parameters.comm _ _ (λ q. tt) (λ q. tt)
      carried_ordered SetParameters e = at_cond Ordered (consistent table x.state (parameters_of e.attributes)) _ _ (λ q. tt) (λ q. reported_ordered 98)

      step_ordered : (event : Event) → Ordered (settled table x (Steps event))
      unfolding settled_by step_by
      step_ordered event = carried_ordered _ (seen_of event)

    -- An event that is no message is not reported.
    plain_ordered : (d : Decision) (e : Seen) → Plain d → Ordered (carried_out (fitness_of table) x d e)
    unfolding carried_out no_step
    plain_ordered (Take d) e p = tt
    plain_ordered NoStep e p = tt
    plain_ordered Ignore e p = absurd p
    plain_ordered (Report cause) e p = absurd p
    plain_ordered TellStatus e p = absurd p
    plain_ordered SetParameters e p = absurd p

    told_ordered : (t : Option Event) → NoMessage t → Ordered (settled table x (told_due t))
    unfolding settled_by told_due step_by no_step
    told_ordered (Some event) h =
        plain_ordered _ (seen_of event) (event-plain (fitness_of table) (greatest_actions table) (step_table table) (rows_sound table) x (seen_of event).number (seen_of event).code h)
    told_ordered None h = tt

  pub react_orderly : (identity : List ℕ) (x : Context) (h : Happened) (s : List ℕ) → fit_of table x ≡ true → Ordered x s (reacted_to table identity x h s)
  unfolding reacted_to due_to settled_by ignored
  react_orderly identity x h s fit =
      at_cond (λ due. Ordered x s (settled table x due)) (eqb h.number 18) _ _
      (λ e. every_due (λ due. Ordered x s (settled table x due)) (λ reason. tt) x s
      (λ fits cause. reported_ordered x s (λ a. fits-small x (get_or s 0 0) (leb-true _ _ (fit-value table x fit)) fits) cause)
      (λ fits mode m. step_ordered x s (λ a. fits-small x (get_or s 0 0) (leb-true _ _ (fit-value table x fit)) fits) (Received mode (get_or s 0 0 / 16 % 8) m)) table identity h.mode)
      (λ e. told_ordered x s (event_of h.number h.value h.reference) (no_message h.number h.value h.reference))

  -- The step by the number of its refusal.
  pub step_by_lem : (own : Own) (identity : List ℕ) (room : ℕ) (x : Context) (h : Happened) (s : List ℕ)
      → step_of table own identity room x h s
      ≡ (let n : ℕ = refusal_of table x own.key (length identity) h (length s) room in cond (eqb n 0) (reacted (protocol_of table) own identity s (reacted_to table identity x h s)) (refused n x))
  unfolding step_of
  step_by_lem own identity room x h s = refl

  -- What holds of each refusal, and of the step where none refuses, holds of the step.
  module _ (own : Own) (identity : List ℕ) (room : ℕ) (x : Context) (h : Happened) (s : List ℕ) (P : Reaction → Type 0) where
    pub of_step : P (refused (refusal_of table x own.key (length identity) h (length s) room) x)
        → (InRange table x own.key (length identity) h (length s) room → P (reacted (protocol_of table) own identity s (reacted_to table identity x h s)))
        → P (step_of table own identity room x h s)
    unfolding step_of
    of_step no_way yes_way =
        at_cond P (eqb (refusal_of table x own.key (length identity) h (length s) room) 0) _ _
        (λ e. yes_way (in_range table x own.key (length identity) h (length s) room (eqb-true _ 0 e))) (λ e. no_way)

  module _ (own : Own) (identity d : List ℕ) (x : Context) (h : Happened) (s : List ℕ) where
    abbrev why : ℕ
    why = refusal_of table x own.key (length identity) h (length s) (length d)

    abbrev all : Reaction
    all = step_of table own identity (length d) x h s

    -- The step without its tests, as the code goes it.
    abbrev pub Taking : Stepped → List ℕ → Type 0
    Taking r after =
        (r ≡ shown (taken_of table own identity (length d) x h s)) × (after ≡ sets d 0 (taken_of table own identity (length d) x h s).reply)

    pub takes : (t : Settled) → t ≡ reacted_to table identity x h s → (protocol : Protocol) → protocol ≡ protocol_of table → (n : ℕ) (after : List ℕ)
        → (n ≡ length (put_all protocol (length d) own identity s t.context t.sends t.sent)) × (after ≡ sets d 0 (put_all protocol (length d) own identity s t.context t.sends t.sent))
        → Taking (record { context = t.context; outcome = record { answer = t.answer; reason = t.reason; actions = t.actions; count = n } }) after
    unfolding taken_of
    takes t p protocol q n after w = rw (← p, ← q) (rw w.0, w.1)

    -- The two ways of the step, as the code goes them.
    abbrev pub Stepping : Stepped → List ℕ → Type 0
    Stepping r after = (r ≡ shown all) × (after ≡ sets d 0 all.reply)

    pub is_refused : (a : ℕ) → a ≡ why → (a ≡ 0 → ⊥) → Stepping (shown (refused a x)) d
    is_refused a e n =
        let q : all ≡ refused a x = step_by_lem own identity (length d) x h s ∙ rw (← e, ne_eqb a 0 n) in
        rw q (refl, refl)

    -- Where no test refuses, the step without its tests is the step: the reply fits the buffer.
    pub taken_is_step : why ≡ 0 → taken_of table own identity (length d) x h s ≡ all
    unfolding taken_of
    taken_is_step z =
        let o : InRange table x own.key (length identity) h (length s) (length d) = in_range table x _ _ h _ _ z in
        let t : Settled = reacted_to table identity x h s in
        let f : fit_of table t.context ≡ true = react_fit identity x h s own.key o.fit o.range in
        let l : put_all (protocol_of table) (length d) own identity s t.context t.sends t.sent ≡ reply_of (protocol_of table) own identity s t.context t.sends t.sent
        = put_is_reply (protocol_of table) t.context (leb-true _ _ (fit-value table t.context f)) own identity s t.sends t.sent o.known o.least o.most
        (react_orderly identity x h s o.fit) (length d) o.big in
        rw l (sym (step_by_lem own identity (length d) x h s ∙ rw z))

    pub is_taken : (a : ℕ) → a ≡ why → a ≡ 0 → (r : Stepped) (after : List ℕ) → Taking r after → Stepping r after
    is_taken a e z r after w = rw (taken_is_step (sym e ∙ z)) at w
