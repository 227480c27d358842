-- What reading a message gives, as a function of its octets: the parts that messages are made of, then tables 8.1 to 8.9 in their order, then the first two octets.
-- Document 01, "Received messages": type bit 7 is read as anything; two half octets: the first named takes bits 1 to 4; spare halves and bits are read as anything;
-- a mandatory part is wrong only if it is cut short or a length octet lies outside what its table draws; any code in it passes.
use Rattle.std.specs.Prelude.{ℕ, ◌+◌, ◌-◌, ◌/◌, ◌%◌, List, [], ◌∷◌, Bool, cond, length, get_or, ltb, leb, eqb, Option, Some, None, Result, Ok, Err}
use Rattle.std.specs.Result.{result_ok}
use Rattle.octets.specs.Rows.{rows}
use Rattle.octets.specs.declared.Run.{Run}
use Rattle.element.specs.declared.Miscount.{Miscount}
use Rattle.element.specs.declared.Miscount.TheVariants.{CutShort as CountedShort, WrongLength as CountedWrong}
use Rattle.message.specs.declared.Fault.{Fault}
use Rattle.message.specs.declared.Reading.{Reading}
use Rattle.message.specs.declared.Unread.{Unread}
use Rattle.message.specs.declared.Unread.TheVariants.{TooLong, Unreadable}
use Rattle.element.specs.Elements.{element_from}
use Rattle.element.specs.Counted.{counted_at}
use Rattle.codes.specs.declared.protocol.Protocol.{Protocol}
use Rattle.codes.specs.declared.protocol.Protocol.TheVariants.{Broadcast, Group}
use Rattle.codes.specs.Protocol.{discriminator}
use Rattle.codes.specs.MessageTypes.{
  IMMEDIATE-SETUP,
  SETUP,
  CONNECT,
  TERMINATION,
  TERMINATION-REQUEST,
  TERMINATION-REJECT,
  STATUS,
  GET-STATUS,
  SET-PARAMETER,
}
use Rattle.octets.specs.declared.Reference.{Reference}
use Rattle.message.specs.declared.Classmark.{Classmark}
use Rattle.message.specs.declared.Message.{Message}
use Rattle.message.specs.declared.Message.TheVariants.{
  Connect,
  GetStatus,
  ImmediateSetup,
  SetParameter,
  Setup,
  Status,
  Termination,
  TerminationReject,
  TerminationRequest,
}
use Rattle.message.specs.declared.Fault.TheVariants.{
  TooShort,
  Discriminator,
  UnknownType,
  CutShort,
  WrongLength,
  MustBeKnown,
}

-- ---- the parts of a message

-- The papers count a message's octets from 1, and places in a list are counted from 0: octet `n` stands at `place n`.
abbrev pub place : ℕ → ℕ
place n = n - 1

abbrev pub octet : ℕ → List ℕ → ℕ
octet n s = get_or s (place n) 0

abbrev pub reference_at : List ℕ → ℕ → Reference
reference_at s at = record {
  first = get_or s at 0;
  second = get_or s (at + 1) 0;
  third = get_or s (at + 2) 0;
  fourth = get_or s (at + 3) 0;
}

abbrev pub classmark_at : List ℕ → ℕ → Classmark
classmark_at s at = record { first = get_or s at 0; second = get_or s (at + 1) 0; third = get_or s (at + 2) 0 }

-- The place behind a run.
abbrev pub behind : Run → ℕ
behind run = run.start + run.count

-- A mandatory part whose length octet at `at` counts no run: it is cut short, or the length is wrong.
abbrev pub miscounted : ℕ → Miscount → Fault
miscounted at CountedShort = CutShort
miscounted at CountedWrong = WrongLength at

-- What `go` makes of the run that the length octet at `at` counts.
abbrev pub on_counted : {A : Type 0} → ℕ → (Run → Result A Fault) → Result Run Miscount → Result A Fault
on_counted at go (Ok run) = go run
on_counted at go (Err miscount) = Err (miscounted at miscount)

-- The run that the length octet at `at` counts, from `low` to `high`.
unfoldable pub counted_of : List ℕ → ℕ → ℕ → ℕ → Result Run Fault
counted_of s at low high = on_counted at Ok (counted_at s at low high)

-- An element whose identifier has bits 8 to 5 all zero must be known.
abbrev pub unless_known : Message → Option (ℕ × ℕ) → Result Message Fault
unless_known message None = Ok message
unless_known message (Some (at, identifier)) = Err (MustBeKnown at identifier)

-- A message whose mandatory part is its first `end` octets: they are there, and no element behind them must be known.
unfoldable pub whole_of : List ℕ → ℕ → Message → Result Message Fault
whole_of s end message = cond (leb end (length s)) (unless_known message (element_from s end 0 15)) (Err CutShort)

-- Optional identity: value 1 to 8 octets, else absent.
unfoldable pub identity_behind : List ℕ → ℕ → Option Run
identity_behind s at = result_ok (counted_at s (at + 1) 1 8)

abbrev pub identity_found : List ℕ → Option (ℕ × ℕ) → Option Run
identity_found s None = None
identity_found s (Some (at, identifier)) = identity_behind s at

abbrev pub half_found : Option (ℕ × ℕ) → Option ℕ
half_found None = None
half_found (Some (at, identifier)) = Some (identifier % 16)

-- The first element from `at` on with this upper half: its lower half.
unfoldable pub half_at : List ℕ → ℕ → ℕ → Option ℕ
half_at s at low = half_found (element_from s at low (low + 15))

-- ---- the tables, in their order

-- Table 8.1: CONNECT. Octets 3 to 6 are the reference. Octet 7: the originator indication, of which bit 1 alone is read, and the spare half.
unfoldable pub connect_of : List ℕ → Result Message Fault
connect_of s = whole_of s 7 (Connect (reference_at s (place 3)) (octet 7 s % 2))

-- Table 8.2: GET STATUS. Two octets, and the optional identity, 17 hexadecimal; its first appearance alone decides.
unfoldable pub get_status_of : List ℕ → Result Message Fault
get_status_of s = whole_of s 2 (GetStatus (identity_found s (element_from s (place 3) 0x17 0x17)))

-- Table 8.3: IMMEDIATE SETUP. Octet 3: the spare half, named first, is bits 1 to 4, and the key number the three bits above. Octet 4 counts the classmark,
-- octets 5 to 7. Octet 8 counts the identity, from octet 9 on; the four octets behind that are the reference.
abbrev pub immediate_reference_of : List ℕ → Run → Result Message Fault
immediate_reference_of s identity =
    whole_of s (behind identity + 4)
    (ImmediateSetup (octet 3 s / 16 % 8) (classmark_at s (place 5)) identity (reference_at s (behind identity)))

unfoldable pub immediate_identity_of : List ℕ → Result Message Fault
immediate_identity_of s = on_counted (place 8) (immediate_reference_of s) (counted_at s (place 8) 1 8)

unfoldable pub immediate_setup_of : List ℕ → Result Message Fault
immediate_setup_of s = on_counted (place 4) (λ classmark. immediate_identity_of s) (counted_at s (place 4) 3 3)

-- Table 8.4: SET PARAMETER. Octet 3: the state attributes, bits 1 to 4, and the spare half.
unfoldable pub set_parameter_of : List ℕ → Result Message Fault
set_parameter_of s = whole_of s 3 (SetParameter (octet 3 s % 16))

-- Table 8.5: SETUP. Octets 3 to 6 are the reference.
unfoldable pub setup_of : List ℕ → Result Message Fault
setup_of s = whole_of s 6 (Setup (reference_at s (place 3)))

-- Table 8.6: STATUS. Octet 3 counts the cause, from octet 4 on. Behind it call state and state attributes: either may be absent, and the first of each is
-- read, in any order.
abbrev pub status_behind : List ℕ → Run → Result Message Fault
status_behind s cause = whole_of s (behind cause) (Status cause (half_at s (behind cause) 0xA0) (half_at s (behind cause) 0xB0))

unfoldable pub status_of : List ℕ → Result Message Fault
status_of s = on_counted (place 3) (status_behind s) (counted_at s (place 3) 1 247)

-- Table 8.7: TERMINATION. Octet 3 counts the cause, from octet 4 on.
abbrev pub termination_behind : List ℕ → Run → Result Message Fault
termination_behind s cause = whole_of s (behind cause) (Termination cause)

unfoldable pub termination_of : List ℕ → Result Message Fault
termination_of s = on_counted (place 3) (termination_behind s) (counted_at s (place 3) 1 247)

-- Table 8.8: TERMINATION REJECT. In broadcast calls octet 3 counts the cause, from octet 4 on; in group calls the cause is octets 3 to 6.
abbrev pub termination_reject_behind : List ℕ → Run → Result Message Fault
termination_reject_behind s cause = whole_of s (behind cause) (TerminationReject cause)

abbrev pub four_octets : Run
four_octets = record { start = place 3; count = 4 }

unfoldable pub termination_reject_of : Protocol → List ℕ → Result Message Fault
termination_reject_of Broadcast s = on_counted (place 3) (termination_reject_behind s) (counted_at s (place 3) 1 247)
termination_reject_of Group s = termination_reject_behind s four_octets

-- Table 8.9: TERMINATION REQUEST. Octets 3 to 6 are the reference.
unfoldable pub termination_request_of : List ℕ → Result Message Fault
termination_request_of s = whole_of s 6 (TerminationRequest (reference_at s (place 3)))

-- ---- the first two octets

-- 9.3, table 9.1: the message of a type, without bits 7 and 8.
abbrev pub kinds : Protocol → List ℕ → List (ℕ × Result Message Fault)
kinds protocol s =
    (IMMEDIATE-SETUP, immediate_setup_of s) ∷
    (SETUP, setup_of s) ∷
    (CONNECT, connect_of s) ∷
    (TERMINATION, termination_of s) ∷
    (TERMINATION-REQUEST, termination_request_of s) ∷
    (TERMINATION-REJECT, termination_reject_of protocol s) ∷
    (STATUS, status_of s) ∷
    (GET-STATUS, get_status_of s) ∷
    (SET-PARAMETER, set_parameter_of s) ∷
    []

unfoldable pub body_of : Protocol → List ℕ → ℕ → Result Message Fault
body_of protocol s kind = rows kind (Err UnknownType) (kinds protocol s)

abbrev pub read_as : Bool → ℕ → Result Message Fault → Result Reading Unread
read_as flag value (Ok message) = Ok (record { flag = flag; value = value; message = message })
read_as flag value (Err fault) = Err (Unreadable fault)

-- Document 01, "Answer numbers", message reading alone: over 251 octets, else the first fault, else flag, transaction value 0 to 7 and the message.
-- Octet 1: the discriminator is bits 1 to 4, the transaction value bits 5 to 7, the flag bit 8. Octet 2, the type: bit 8 set is no type, bit 7 is read as anything.
unfoldable pub read_message : Protocol → List ℕ → Result Reading Unread
read_message protocol s =
    cond (ltb 251 (length s)) (Err TooLong)
    (cond (ltb (length s) 2) (Err (Unreadable TooShort))
    (cond (eqb (octet 1 s % 16) (discriminator protocol))
    (cond (leb 128 (octet 2 s)) (Err (Unreadable UnknownType))
    (read_as (leb 128 (octet 1 s)) (octet 1 s / 16 % 8) (body_of protocol s (octet 2 s % 64))))
    (Err (Unreadable Discriminator))))
