-- The rules give each reason exactly on its condition.
use Prim.Native.Nat.{ℕ, ◌%◌}
use mathlib.Core.Path.{◌≡◌, refl, subst}
use mathlib.Core.List.{List, [], ◌∷◌, ◌++◌}
use mathlib.Core.Bool.{Bool, true, false, cond, not, ◌&&◌}
use native.Mathlib.Omega.{arith}
use lib.Dec.{eqb, ltb}
use lib.ListN.{length, get_or}
use Rattle.codes.specs.declared.state.State.TheVariants.{U0}
use Rattle.codes.specs.Protocol.{discriminator}
use Rattle.codes.specs.Attributes.{parameters_of}
use Rattle.std.specs.Prelude.{Result, Ok, Err}
use Rattle.message.specs.declared.Reading.{Reading}
use Rattle.message.specs.declared.Unread.{Unread}
use Rattle.message.specs.Reading.{read_message}
use Rattle.version.specs.declared.Table.{Table}
use Rattle.version.specs.Version.{greatest_actions, protocol_of}
use Rattle.context.specs.declared.Context.{Context}
use Rattle.context.specs.States.{same}
use Rattle.fitness.specs.Tables.{fitness_of, consistent}
use Rattle.transitions.specs.declared.Decision.{Decision}
use Rattle.transitions.specs.declared.Decision.TheVariants.{Take, NoStep, Ignore, Report, TellStatus, SetParameters}
use Rattle.transitions.specs.Table.{step_table}
use Rattle.transitions.proofs.Sound.{rows_sound}
use Rattle.transitions.proofs.Decided.{Listens, decided_listens}
use Rattle.call.specs.declared.Reason.{Reason}
use Rattle.call.specs.declared.Reason.TheVariants.{OtherIdentity, CommFalse}
use Rattle.call.specs.declared.Seen.{Seen}
use Rattle.call.specs.Due.{settled_by, settled}
use Rattle.call.specs.Events.{seen_message, seen_of}
use Rattle.call.specs.Reasons.{reason_number}
use Rattle.call.proofs.Reasons.{same-reason, numbered}
use Rattle.call.specs.Step.{ignored, no_step, reported_with, status_told, parameters_set, carried_out, step_by}
use Rattle.received.specs.Received.{transaction_fits, must_name_us, type_cause, asked_of, is_other}
use Rattle.received.specs.Due.{understood_due, reading_due, due_of}
use Rattle.received.specs.Ignored.{names_other, tells_by, wants_status, holds_of, in_order, first_in}

-- A test goes one way or the other.
split : {A : Type 0} (t : Bool) → (t ≡ true → A) → (t ≡ false → A) → A
split true yes_way no_way = yes_way refl
split false yes_way no_way = no_way refl

-- ---- the first of the reasons that hold

module _ (holds : Reason → Bool) where
  -- No reason of a list holds.
  abbrev pub NoneHolds : List Reason → Type 0
  NoneHolds [] = Unit {0}
  NoneHolds (reason ∷ more) = (holds reason ≡ false) × NoneHolds more

  -- A reason that holds where none before it does is given,
  pub given : (before after : List Reason) (reason : Reason) → NoneHolds before → holds reason ≡ true → first_in holds (before ++ (reason ∷ after)) ≡ reason_number reason
  unfolding first_in
  given [] after reason none e = rw e
  given (first ∷ before) after reason none e = rw none.0 (given before after reason none.1 e)

  -- and one that is given holds.
  pub only : (all : List Reason) (reason : Reason) → first_in holds all ≡ reason_number reason → holds reason ≡ true
  unfolding first_in
  only [] reason e = let z : ⊥ = omega (arith, e, (numbered reason).0) in absurd z
  only (first ∷ more) reason e =
      split (holds first) (λ h. subst (λ r. holds r ≡ true) (same-reason first reason (rw h at e)) h) (λ h. only more reason (rw h at e))

-- ---- the rules

module _ (table : Table) (x : Context) where
  -- Where a STATUS is due and COMM is false.
  abbrev unsaid : Bool → ℕ
  unsaid due = cond (not x.parameters.comm && due) (reason_number CommFalse) 0

  nothing_due : 0 ≡ unsaid false
  nothing_due = split x.parameters.comm (λ c. rw c) (λ c. rw c)

  reported_reason : (cause : ℕ) → (reported_with cause x).reason ≡ unsaid true
  unfolding reported_with ignored
  reported_reason cause = split x.parameters.comm (λ c. rw c) (λ c. rw c)

  carried-reason : (d : Decision) (e : Seen) → Listens d
      → (carried_out (fitness_of table) x d e).reason ≡ unsaid (tells_by table x e.attributes d)
  unfolding carried_out no_step ignored status_told parameters_set tells_by
  carried-reason (Take d) e l = nothing_due
  carried-reason NoStep e l = nothing_due
  carried-reason Ignore e l = absurd l
  carried-reason (Report cause) e l = reported_reason cause
  carried-reason TellStatus e l = split x.parameters.comm (λ c. rw c) (λ c. rw c)
  carried-reason SetParameters e l =
      split (consistent table x.state (parameters_of e.attributes))
      (λ f. rw f nothing_due)
      (λ f. rw f (reported_reason 98))

  -- Rules 3 to 6.
  read-reason : (identity : List ℕ) (mode : ℕ) (s : List ℕ) → same x.state U0 ≡ false → (r : Result Reading Unread)
      → (settled table x (reading_due (understood_due (protocol_of table) identity mode s) r)).reason
      ≡ cond (names_other identity mode s r) (reason_number OtherIdentity) (unsaid (wants_status table x r))
  unfolding settled_by reading_due understood_due names_other wants_status ignored step_by seen_of
  read-reason identity mode s calling (Ok read) =
      split (eqb mode 1 && is_other identity s (asked_of read.message).identity) (λ e. rw e)
      (λ e. rw e
      (split (must_name_us (protocol_of table) && (asked_of read.message).disowns) (λ d. rw d (reported_reason 95))
      (λ d. rw d (carried-reason _ (seen_message read.value read.message) (decided_listens (fitness_of table) (greatest_actions table) (step_table table) (rows_sound table) x calling (seen_message read.value read.message).number (seen_message read.value read.message).code)))))
  read-reason identity mode s calling (Err unread) = reported_reason 96

  -- All six: the reason is the first whose condition holds.
  pub reason-first : (identity : List ℕ) (mode : ℕ) (s : List ℕ) → (settled table x (due_of table identity x mode s)).reason ≡ first_in (holds_of table identity x mode s) in_order
  unfolding settled_by due_of ignored first_in holds_of
  reason-first identity mode s =
      split (same x.state U0) (λ a. rw a)
      (λ a. rw a (split (ltb (length s) 2) (λ b. rw b)
      (λ b. rw b (split (eqb (get_or s 0 0 % 16) (discriminator (protocol_of table)))
      (λ c. rw c (split (transaction_fits x (get_or s 0 0))
      (λ d. rw d (split (eqb (type_cause table x (get_or s 1 0)) 0) (λ t. rw t (read-reason identity mode s a (read_message (protocol_of table) s)))
      (λ t. rw t (reported_reason _))))
      (λ d. rw d)))
      (λ c. rw c)))))
