-- What rule 3 reports: after rules 1 and 2 a message that can't be read has fault 4, its mandatory part or an element that must be known.
use Prim.Native.Nat.{ℕ, ◌%◌, ◌≤◌}
use mathlib.Core.Path.{◌≡◌, refl, sym}
use mathlib.Core.List.{List}
use mathlib.Core.Bool.{Bool, true, false}
use native.Mathlib.Omega.{arith}
use lib.Dec.{leb}
use lib.ListN.{length, get_or}
use borrow.Author.Tests.{le-ltb}
use Rattle.octets.proofs.Choice.{at_cond}
use Rattle.octets.proofs.Rows.{Absent, Each, other, at_rows}
use Rattle.codes.specs.declared.state.State.TheVariants.{U0}
use Rattle.codes.specs.declared.protocol.Protocol.{Protocol}
use Rattle.codes.specs.declared.protocol.Protocol.TheVariants.{Broadcast, Group}
use Rattle.octets.specs.declared.Run.{Run}
use Rattle.std.specs.Prelude.{Option, Some, None, Result, Ok, Err}
use Rattle.element.specs.declared.Miscount.{Miscount}
use Rattle.element.specs.declared.Miscount.TheVariants.{CutShort as CountedShort, WrongLength as CountedWrong}
use Rattle.message.specs.declared.Fault.{Fault}
use Rattle.message.specs.declared.Reading.{Reading}
use Rattle.message.specs.declared.Unread.{Unread}
use Rattle.message.specs.declared.Unread.TheVariants.{TooLong, Unreadable}
use Rattle.element.specs.Counted.{counted_at}
use Rattle.element.specs.Elements.{element_from}
use Rattle.message.specs.declared.Message.{Message}
use Rattle.message.specs.Answers.{fault_number}
use Rattle.message.specs.Reading.{
  unless_known,
  whole_of,
  miscounted,
  on_counted,
  connect_of,
  get_status_of,
  immediate_identity_of,
  immediate_setup_of,
  set_parameter_of,
  setup_of,
  status_behind,
  status_of,
  termination_behind,
  termination_of,
  termination_reject_behind,
  termination_reject_of,
  termination_request_of,
  kinds,
  body_of,
  read_as,
  read_message,
}
use Rattle.version.specs.declared.Table.{Table}
use Rattle.version.specs.Version.{protocol_of}
use Rattle.context.specs.declared.Context.{Context}
use Rattle.context.specs.States.{same}
use Rattle.transitions.specs.declared.Decision.TheVariants.{Report}
use Rattle.transitions.specs.Table.{step_table, decided_in, decided_by, decided_of}
use Rattle.transitions.proofs.Types.{types, no_type}
use Rattle.transitions.proofs.Sound.{rows_sound}
use Rattle.received.specs.Received.{cause_in, type_cause}
use Rattle.received.proofs.Rules.{Ours}

abbrev FourBody : Result Message Fault → Type 0
FourBody (Ok message) = Unit {0}
FourBody (Err fault) = fault_number fault ≡ 4

-- The message is read, or its fault is the fourth.
abbrev pub Four : Result Reading Unread → Type 0
Four (Ok read) = Unit {0}
Four (Err (Unreadable fault)) = fault_number fault ≡ 4
Four (Err TooLong) = ⊥

known : (m : Message) (found : Option (ℕ × ℕ)) → FourBody (unless_known m found)
known m None = tt
known m (Some (place, identifier)) = refl

whole : (s : List ℕ) (end : ℕ) (m : Message) → FourBody (whole_of s end m)
unfolding whole_of
whole s end m = at_cond FourBody (leb end (length s)) _ _ (λ e. known m (element_from s end 0 15)) (λ e. refl)

miscounted-four : (at : ℕ) (miscount : Miscount) → fault_number (miscounted at miscount) ≡ 4
miscounted-four at CountedShort = refl
miscounted-four at CountedWrong = refl

counted : (at : ℕ) (go : Run → Result Message Fault) (c : Result Run Miscount) → ((run : Run) → FourBody (go run)) → FourBody (on_counted at go c)
counted at go (Ok run) w = w run
counted at go (Err miscount) w = miscounted-four at miscount

immediate : (s : List ℕ) → FourBody (immediate_setup_of s)
unfolding immediate_setup_of immediate_identity_of
immediate s = counted 3 _ (counted_at s 3 3 3) (λ c. counted 7 _ (counted_at s 7 1 8) (λ run. whole s _ _))

rejected : (protocol : Protocol) (s : List ℕ) → FourBody (termination_reject_of protocol s)
unfolding termination_reject_of
rejected Broadcast s = counted 2 (termination_reject_behind s) (counted_at s 2 1 247) (λ run. whole s _ _)
rejected Group s = whole s _ _

bodies : (protocol : Protocol) (s : List ℕ) (kind : ℕ) → Each FourBody kind (kinds protocol s)
unfolding connect_of get_status_of set_parameter_of setup_of status_of termination_of termination_request_of
bodies protocol s kind =
    let terminated = counted 2 (termination_behind s) (counted_at s 2 1 247) (λ run. whole s _ _) in
    let told = counted 2 (status_behind s) (counted_at s 2 1 247) (λ run. whole s _ _) in (
      λ e. immediate s,
      (
        λ e. whole s _ _,
        (λ e. whole s _ _, (λ e. terminated, (λ e. whole s _ _, (λ e. rejected protocol s, (λ e. told, (λ e. whole s _ _, (λ e. whole s _ _, tt))))))),
      ),
    )

-- A type that is not of table 9.1 is reported with 97 in every state but U0.
unknown : (table : Table) (protocol : Protocol) (s : List ℕ) (x : Context) (code : ℕ) → same x.state U0 ≡ false → Absent code (kinds protocol s) → decided_of table x 18 code ≡ Report 97
unfolding decided_by decided_in
unknown table protocol s x code u a = sym (no_type x.state x code (other code false types a) (step_table table) (rows_sound table).types-known u)

module _ (table : Table) (x : Context) (s : List ℕ) (ours : Ours (protocol_of table) x s) (none : type_cause table x (get_or s 1 0) ≡ 0) where
  apart : (n : ℕ) → n ≡ 97 → n ≡ 0 → ⊥
  apart n a b = omega arith

  high : leb 128 (get_or s 1 0) ≡ true → type_cause table x (get_or s 1 0) ≡ 97
  unfolding type_cause
  high e = rw e

  low : leb 128 (get_or s 1 0) ≡ false
  low = go (leb 128 (get_or s 1 0)) refl
    where
      go : (t : Bool) → leb 128 (get_or s 1 0) ≡ t → t ≡ false
      go true e = elim (apart (type_cause table x (get_or s 1 0)) (high e) none) [ ]
      go false e = refl

  typed : Absent (get_or s 1 0 % 64) (kinds (protocol_of table) s) → ⊥
  unfolding type_cause cause_in
  typed a =
      apart (type_cause table x (get_or s 1 0))
      (rw (low, unknown table (protocol_of table) s x (get_or s 1 0 % 64) ours.calling a)) none

  read_as_lem : (flag : Bool) (value : ℕ) (b : Result Message Fault) → FourBody b → Four (read_as flag value b)
  read_as_lem flag value (Ok message) p = p
  read_as_lem flag value (Err fault) p = p

  pub fault-four : length s ≤ 251 → Four (read_message (protocol_of table) s)
  unfolding read_message body_of
  fault-four h =
      rw (le-ltb 251 (length s) h, ours.two, ours.discriminated, low)
      (read_as_lem _ _ (body_of (protocol_of table) s (get_or s 1 0 % 64)) (at_rows FourBody (get_or s 1 0 % 64) _ (kinds (protocol_of table) s) (bodies (protocol_of table) s (get_or s 1 0 % 64)) (λ a. elim (typed a) [ ])))
