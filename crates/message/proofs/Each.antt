-- What holds of every message that the tables can give holds of the message that was read: one walk through the reader's definitions, for any property.
use Prim.Native.Nat.{ℕ, ◌/◌, ◌%◌, ◌≤◌}
use mathlib.Core.Path.{◌≡◌, refl, subst}
use mathlib.Core.List.{List}
use mathlib.Core.Bool.{Bool}
use lib.ListN.{length}
use lib.Dec.{leb, ltb, eqb}
use borrow.Author.Tests.{leb-true, ltb-false}
use Rattle.octets.proofs.Choice.{at_cond}
use Rattle.octets.proofs.Rows as Rows
use Rattle.octets.proofs.Rows.{at_rows}
use Rattle.codes.specs.declared.protocol.Protocol.{Protocol}
use Rattle.codes.specs.declared.protocol.Protocol.TheVariants.{Broadcast, Group}
use Rattle.codes.specs.Protocol.{discriminator}
use Rattle.octets.specs.declared.Run.{Run}
use Rattle.std.specs.Prelude.{Option, Some, None, Result, Ok, Err}
use Rattle.element.specs.declared.Miscount.{Miscount}
use Rattle.message.specs.declared.Fault.{Fault}
use Rattle.message.specs.declared.Reading.{Reading}
use Rattle.message.specs.declared.Unread.{Unread}
use Rattle.element.specs.Elements.{element_from}
use Rattle.element.specs.Counted.{counted_at}
use Rattle.element.proofs.Counting.{Lies, counted-told, Told as Counts}
use Rattle.message.specs.declared.Message.{Message}
use Rattle.message.specs.declared.Message.TheVariants.{
  Connect,
  GetStatus,
  ImmediateSetup,
  SetParameter,
  Setup,
  Status,
  Termination,
  TerminationReject,
  TerminationRequest,
}
use Rattle.message.specs.declared.Fault.TheVariants.{UnknownType}
use Rattle.message.specs.Reading.{
  place,
  octet,
  reference_at,
  classmark_at,
  behind,
  unless_known,
  whole_of,
  on_counted,
  identity_found,
  half_at,
  connect_of,
  get_status_of,
  immediate_reference_of,
  immediate_identity_of,
  immediate_setup_of,
  set_parameter_of,
  setup_of,
  status_behind,
  status_of,
  termination_behind,
  termination_of,
  termination_reject_behind,
  four_octets,
  termination_reject_of,
  termination_request_of,
  kinds,
  body_of,
  read_as,
  read_message,
}

-- Where the cause of a TERMINATION REJECT lies: its length octet counts it, or it is the four octets behind the type.
abbrev pub RejectLies : Protocol → List ℕ → Run → Type 0
RejectLies Broadcast s cause = Lies s (place 3) 1 247 cause
RejectLies Group s cause = (cause ≡ four_octets) × (6 ≤ length s)

module _ (protocol : Protocol) (s : List ℕ) (P : Message → Type 0) where
  -- The property of what each table gives, where a run is one that its length octet counts.
  pub record Each : Type 0 where
    pub connect : P (Connect (reference_at s (place 3)) (octet 7 s % 2))
    pub get_status : P (GetStatus (identity_found s (element_from s (place 3) 0x17 0x17)))
    pub immediate_setup : (identity : Run) → Lies s (place 8) 1 8 identity
        → P (ImmediateSetup (octet 3 s / 16 % 8) (classmark_at s (place 5)) identity (reference_at s (behind identity)))
    pub set_parameter : P (SetParameter (octet 3 s % 16))
    pub setup : P (Setup (reference_at s (place 3)))
    pub status : (cause : Run) → Lies s (place 3) 1 247 cause
        → P (Status cause (half_at s (behind cause) 0xA0) (half_at s (behind cause) 0xB0))
    pub termination : (cause : Run) → Lies s (place 3) 1 247 cause → P (Termination cause)
    pub termination_reject : (cause : Run) → RejectLies protocol s cause → P (TerminationReject cause)
    pub termination_request : P (TerminationRequest (reference_at s (place 3)))

  abbrev InBody : Result Message Fault → Type 0
  InBody (Ok message) = P message
  InBody (Err fault) = Unit {0}

  abbrev pub InReading : Result Reading Unread → Type 0
  InReading (Ok read) = P read.message
  InReading (Err unread) = Unit {0}

  known : (m : Message) (found : Option (ℕ × ℕ)) → P m → InBody (unless_known m found)
  known m None p = p
  known m (Some (at, identifier)) p = tt

  whole-there : (end : ℕ) (m : Message) → (end ≤ length s → P m) → InBody (whole_of s end m)
  unfolding whole_of
  whole-there end m p = at_cond InBody (leb end (length s)) _ _ (λ e. known m (element_from s end 0 15) (p (leb-true _ _ e))) (λ e. tt)

  whole : (end : ℕ) (m : Message) → P m → InBody (whole_of s end m)
  whole end m p = whole-there end m (λ h. p)

  on-counted : (at low high : ℕ) (go : Run → Result Message Fault) (c : Result Run Miscount) → Counts s at low high c
      → ((run : Run) → Lies s at low high run → InBody (go run)) → InBody (on_counted at go c)
  on-counted at low high go (Ok run) t p = p run t
  on-counted at low high go (Err miscount) t p = tt

  counted : (at low high : ℕ) (go : Run → Result Message Fault) → ((run : Run) → Lies s at low high run → InBody (go run))
      → InBody (on_counted at go (counted_at s at low high))
  counted at low high go p = on-counted at low high go (counted_at s at low high) (counted-told s at low high) p

  rejected : (p : Protocol) → ((cause : Run) → RejectLies p s cause → P (TerminationReject cause)) → InBody (termination_reject_of p s)
  unfolding termination_reject_of
  rejected Broadcast each = counted (place 3) 1 247 (termination_reject_behind s) (λ run l. whole _ _ (each run l))
  rejected Group each = whole-there 6 _ (λ h. each four_octets (refl, h))

  bodies : (kind : ℕ) → Each → Rows.Each InBody kind (kinds protocol s)
  unfolding
      connect_of
      get_status_of
      immediate_setup_of
      immediate_identity_of
      set_parameter_of
      setup_of
      status_of
      termination_of
      termination_request_of
  bodies kind each =
      let immediate : InBody (immediate_setup_of s) =
      counted (place 4) 3 3 _ (λ classmark k. counted (place 8) 1 8 (immediate_reference_of s) (λ run l. whole _ _ (each.immediate_setup run l))) in
      let terminated : InBody (termination_of s) = counted (place 3) 1 247 (termination_behind s) (λ run l. whole _ _ (each.termination run l)) in
      let told : InBody (status_of s) = counted (place 3) 1 247 (status_behind s) (λ run l. whole _ _ (each.status run l)) in (
        λ e. immediate,
        (
          λ e. whole _ _ each.setup,
          (
            λ e. whole _ _ each.connect,
            (
              λ e. terminated,
              (
                λ e. whole _ _ each.termination_request,
                (λ e. rejected protocol each.termination_reject, (λ e. told, (λ e. whole _ _ each.get_status, (λ e. whole _ _ each.set_parameter, tt)))),
              ),
            ),
          ),
        ),
      )

  read_as_lem : (flag : Bool) (value : ℕ) (b : Result Message Fault) → InBody b → InReading (read_as flag value b)
  read_as_lem flag value (Ok message) p = p
  read_as_lem flag value (Err fault) p = tt

  pub read-each : (length s ≤ 251 → Each) → InReading (read_message protocol s)
  unfolding read_message body_of
  read-each each =
      at_cond InReading (ltb 251 (length s)) _ _ (λ e. tt) λ short.
      at_cond InReading (ltb (length s) 2) _ _ (λ e. tt) λ e.
      at_cond InReading (eqb (octet 1 s % 16) (discriminator protocol)) _ _
      (λ e. at_cond InReading (leb 128 (octet 2 s)) _ _ (λ e. tt)
      (λ e. read_as_lem _ _ (body_of protocol s (octet 2 s % 64)) (at_rows InBody (octet 2 s % 64) (Err UnknownType) (kinds protocol s) (bodies (octet 2 s % 64) (each (ltb-false _ _ short))) (λ a. tt))))
      (λ e. tt)

  -- The same of a message that reading is known to give.
  pub of_read : (length s ≤ 251 → Each) → (read : Reading) → read_message protocol s ≡ Ok read → P read.message
  of_read each read e = subst InReading e (read-each each)
