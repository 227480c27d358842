-- The recorder refuses no true step: what a step answered 0 to 3 gives is in range. So the recorder never answers 4 to it, where the delta is in range
-- and no more bytes are used than the buffer has: those two are the host's.
use Prim.Native.Nat.{ℕ, ◌+◌, ◌≤◌, ◌<◌}
use mathlib.Core.Path.{◌≡◌, refl, ap}
use mathlib.Core.Bool.{Bool, true, false, not, ◌&&◌, ◌||◌}
use Rattle.std.specs.Prelude.{Result, Ok, Err}
use mathlib.Core.List.{List, [], ◌∷◌, ◌++◌}
use native.Mathlib.Omega.{arith}
use lib.Dec.{eqb, leb, ltb}
use lib.ListN.{length}
use borrow.Author.Tests.{leb-true, ltb-false, eqb-true, eqb-false, le-leb, le-ltb}
use Rattle.octets.proofs.Choice.{at_cond}
use Rattle.codes.specs.declared.state.State.{State}
use Rattle.codes.specs.declared.attributes.Parameters.{Parameters}
use Rattle.codes.specs.Attributes.{parameters_number, weighs}
use Rattle.context.specs.declared.Context.{Context}
use Rattle.context.specs.States.{number_of, among}
use Rattle.context.proofs.Whole.{if_so, in_states, at_state}
use Rattle.fitness.specs.Tables.{fitness_of}
use Rattle.fitness.proofs.Tables.{fit-known}
use Rattle.message.specs.declared.Own.{Own}
use Rattle.radio.specs.Step.{refusal_of}
use Rattle.radio.proofs.Range.{InRange, in_range, refused_over, number-known, mode-most, value-most}
use Rattle.radio.proofs.Reacting.{step_by_lem}
use Rattle.radio.proofs.Answers.{Honest, step_honest, step_keeps_fit, step-short}
use Rattle.version.specs.declared.Table.{Table}
use Rattle.version.specs.declared.Table.TheVariants.{First, Second, Third, Group}
use Rattle.version.specs.Version.{has_event, greatest_state, greatest_actions, protocol_of, longest}
use Rattle.octets.specs.declared.Reference.{Reference}
use Rattle.log_data.specs.Reading.{carries_call}
use Rattle.log_entry.specs.Layout.{Field, number, event_number, octets, all_in_range, data_fields, claim_fields, fields, ranged}
use Rattle.recorder.specs.Recording.{added, record_answer, answer_number}
use Rattle.recorder.specs.declared.Refusal.{Refusal}
use Rattle.recorder.specs.declared.Refusal.TheVariants.{OutOfRange, TooLong, NoRoom}
use Rattle.judge_laws.specs.Log.{Entry}
use Rattle.judge_laws.specs.Recorded.{Move, entry_of}
use Rattle.verdict.specs.Table.{GivenEvent, claim_of, stepped, steps, recordable}
use Rattle.verdict.specs.Entries.{meant_by}

-- ---- fields in range

-- A field more: a number within its range, an event of the table, or octets.
number-first : (least most n : ℕ) (more : List Field) → least ≤ n → n ≤ most → all_in_range more ≡ true → all_in_range (number least most n ∷ more) ≡ true
unfolding all_in_range
number-first least most n more l m r = rw (le-leb least n l, le-leb n most m) r

event-first : (table : Table) (n : ℕ) (more : List Field) → has_event table n ≡ true → all_in_range more ≡ true → all_in_range (event_number table n ∷ more) ≡ true
unfolding all_in_range
event-first table n more h r = rw h r

octets-first : (xs : List ℕ) (more : List Field) → all_in_range more ≡ true → all_in_range (octets xs ∷ more) ≡ true
unfolding all_in_range
octets-first xs more r = r

none_left : all_in_range [] ≡ true
unfolding all_in_range
none_left = refl

-- What an event carries, before the rest: only that has to be in range.
data_first : (event value : ℕ) (reference : Reference) (mode : ℕ) (message : List ℕ) (more : List Field)
    → (carries_call event ≡ true → value ≤ 6) → (eqb event 18 ≡ true → mode ≤ 1) → (eqb event 18 ≡ true → length message ≤ 251)
    → all_in_range more ≡ true → all_in_range (data_fields event value reference mode message ++ more) ≡ true
unfolding data_fields
data_first event value reference mode message more v m l r =
    at_cond Good (carries_call event) _ _ (λ c. number-first 0 6 value _ (omega arith) (v c) (octets-first _ more r))
    (λ c. at_cond Good (eqb event 18) _ _
    (λ q. number-first 0 1 mode _ (omega arith) (m q) (number-first 0 251 (length message) _ (omega arith) (l q) (octets-first message more r)))
    (λ q. r))
  where
    Good : List Field → Type 0
    Good fs = all_in_range (fs ++ more) ≡ true

claim-ranged : (table : Table) (answer state parameters actions : ℕ) (reply : List ℕ) → answer ≤ 3 → state ≤ greatest_state table → parameters ≤ 15 → actions ≤ greatest_actions table → length reply ≤ 255
    → all_in_range (claim_fields table answer state parameters actions reply) ≡ true
unfolding claim_fields
claim-ranged table answer state parameters actions reply a s p c l =
    number-first 0 3 answer _ (omega arith) a
    (number-first 0 (greatest_state table) state _ (omega arith) s
    (number-first 0 15 parameters _ (omega arith) p
    (number-first 0 (greatest_actions table) actions _ (omega arith) c
    (number-first 0 255 (length reply) _ (omega arith) l (octets-first reply [] none_left)))))

-- ---- what a context comes to in numbers

-- The states of a table are those that its log has numbers for.
abbrev numbered_in : Table → State → Bool
numbered_in table s = not (among s (fitness_of table).states) || leb (number_of s) (greatest_state table)

states-numbered : (table : Table) → in_states (numbered_in table) ≡ true
unfolding fitness_of protocol_of greatest_state
states-numbered First = refl
states-numbered Second = refl
states-numbered Third = refl
states-numbered Group = refl

state-most : (table : Table) (s : State) → among s (fitness_of table).states ≡ true → number_of s ≤ greatest_state table
state-most table s known = leb-true _ _ (if_so (among s (fitness_of table).states) _ (at_state (numbered_in table) (states-numbered table) s) known)

weighs-most : (set : Bool) (weight : ℕ) → weighs set weight ≤ weight
unfolding weighs
weighs-most true weight = omega arith
weighs-most false weight = omega arith

parameters-most : (p : Parameters) → parameters_number p ≤ 15
unfolding parameters_number
parameters-most p =
    omega (arith, weighs-most p.orig 8, weighs-most p.comm 4, weighs-most p.datt 2, weighs-most p.uatt 1)

-- ---- the step

-- The entry that the recorder is told of after a step: so many milliseconds since the entry before, the event, and what the step gave.
abbrev pub entry_after : (table : Table) (own : Own) (identity : List ℕ) → Context → GivenEvent → ℕ → Entry (steps table own identity)
entry_after table own identity x e delta = record { delta = delta; event = e; claim = claim_of (stepped table own identity x e) }

-- It is the entry that `specs/Host` has a host tell of.
pub entry_as_told : (table : Table) (own : Own) (identity : List ℕ) (x : Context) (waited : ℕ) (m : Move (steps table own identity))
    → entry_after table own identity x m.event (waited + m.wait) ≡ entry_of (steps table own identity) x waited m
entry_as_told table own identity x waited m = refl

module _ (table : Table) (own : Own) (identity : List ℕ) (x : Context) (e : GivenEvent) (answered : recordable table own identity x e ≡ true) where
  abbrev refusal : ℕ
  refusal = refusal_of table x own.key (length identity) e.happened (length e.octets) 255

  answer-most : (stepped table own identity x e).answer ≤ 3
  answer-most = leb-true _ 3 answered

  -- A refusal is answered with its number, which is over 3: so a step that is answered 0 to 3 was not refused.
  not-refused : refusal ≡ 0
  not-refused = go (eqb refusal 0) refl
    where
      go : (b : Bool) → eqb refusal 0 ≡ b → refusal ≡ 0
      go true q = eqb-true refusal 0 q
      go false q =
          let s : (stepped table own identity x e).answer ≡ refusal = rw (step_by_lem table own identity 255 x e.happened e.octets, q) in
          let o : 3 < refusal = refused_over table x own.key (length identity) e.happened (length e.octets) 255 (eqb-false refusal 0 q) in
          absurd (omega (arith, s, o, answer-most))

  passes : InRange table x own.key (length identity) e.happened (length e.octets) 255
  passes = in_range table x own.key (length identity) e.happened (length e.octets) 255 not-refused

  message-most : eqb e.happened.number 18 ≡ true → length e.octets ≤ 251
  message-most c =
      let g : eqb e.happened.number 18 && ltb 251 (length e.octets) ≡ false = passes.short in
      let k : ltb 251 (length e.octets) ≡ false = rw c at g in
      ltb-false 251 (length e.octets) k

  call_most : carries_call e.happened.number ≡ true → e.happened.value ≤ 6
  unfolding carries_call
  call_most c = leb-true _ 6 (value-most (has_event table e.happened.number) own.key (length identity) e.happened passes.range c)

  module _ (delta : ℕ) (day : delta ≤ 86400000) where
    -- Each number of the entry is in range. The context may be any: one that is not fit is answered 7.
    pub true-step-ranged : ranged table (meant_by table own identity (entry_after table own identity x e delta)) ≡ true
    unfolding ranged fields
    true-step-ranged =
        let h : Honest (greatest_actions table) x (stepped table own identity x e) = step_honest table own identity 255 x e.happened e.octets in
        let l : length (stepped table own identity x e).reply ≤ 251 = step-short table own identity 255 x e.happened e.octets in
        number-first 0 86400000 delta _ (omega arith) day
        (event-first table e.happened.number _ (number-known (has_event table e.happened.number) own.key (length identity) e.happened passes.range)
        (data_first e.happened.number e.happened.value _ e.happened.mode e.octets _ call_most
        (mode-most (has_event table e.happened.number) own.key (length identity) e.happened passes.range) message-most
        (claim-ranged table _ _ _ _ _ answer-most (state-most table (stepped table own identity x e).context.state (fit-known table (stepped table own identity x e).context
        (step_keeps_fit table own identity 255 x e.happened e.octets passes.fit))) (parameters-most (stepped table own identity x e).context.parameters)
        h.few (omega (arith, l)))))

    -- So with no more bytes used than there are, the recorder does not answer 4: it records the entry, or answers 10 or 11.
    pub true-step-recorded : (log : List ℕ) (used : ℕ) → used ≤ length log → record_answer table log used (meant_by table own identity (entry_after table own identity x e delta)) ≡ Err OutOfRange → ⊥
    unfolding record_answer
    true-step-recorded log used inside =
        rw (le-ltb (length log) used inside, true-step-ranged)
        (at_cond Other (ltb longest total) (Err TooLong) _ (λ t q. let z : ◌≡◌ {A = ℕ} 10 4 = ap answer_number q in omega arith)
        (λ t. at_cond Other (ltb (length log) total) (Err NoRoom) (Ok total) (λ u q. let z : ◌≡◌ {A = ℕ} 11 4 = ap answer_number q in omega arith)
        (λ u q. let z : ◌≡◌ {A = ℕ} 0 4 = ap answer_number q in omega arith)))
      where
        Other : Result ℕ Refusal → Type 0
        Other r = r ≡ Err OutOfRange → ⊥

        total : ℕ
        total = used + length (added table used (meant_by table own identity (entry_after table own identity x e delta)))

    -- And within the limits of a log it records the entry.
    pub true-step-taken : (log : List ℕ) (used : ℕ)
        → used + length (added table used (meant_by table own identity (entry_after table own identity x e delta))) ≤ longest
        → used + length (added table used (meant_by table own identity (entry_after table own identity x e delta))) ≤ length log
        → record_answer table log used (meant_by table own identity (entry_after table own identity x e delta))
        ≡ Ok (used + length (added table used (meant_by table own identity (entry_after table own identity x e delta))))
    unfolding record_answer
    true-step-taken log used short room = rw (le-ltb (length log) used (omega arith), true-step-ranged, le-ltb longest _ short, le-ltb (length log) _ room) refl
