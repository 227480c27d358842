-- What it means that numbers are taken back: as the message they came from, and as the octets written from them.
use Rattle.std.specs.Prelude.{ℕ, ◌≤◌, ◌≡◌, List, [], ◌∷◌, Bool, cond, eqb, Some, None}
use Rattle.octets.specs.Rows.{rows}
use Rattle.codes.specs.MessageTypes.{
  IMMEDIATE-SETUP,
  SETUP,
  CONNECT,
  TERMINATION,
  TERMINATION-REQUEST,
  TERMINATION-REJECT,
  STATUS,
  GET-STATUS,
  SET-PARAMETER,
}
use Rattle.message.specs.declared.Message.{Message}
use Rattle.message.specs.declared.Message.TheVariants.{
  Connect,
  GetStatus,
  ImmediateSetup,
  SetParameter,
  Setup,
  Status,
  Termination,
  TerminationReject,
  TerminationRequest,
}
use Rattle.message.specs.Content.{run_octets, reference_octets, classmark_octets}
use Rattle.message_numbers.specs.declared.Optional.{Optional}
use Rattle.message_numbers.specs.declared.Place.{Place}
use Rattle.codes.specs.declared.protocol.Protocol.{Protocol}
use Rattle.message_numbers.specs.declared.Numbers.{Numbers}
use Rattle.message_numbers.specs.Numbers.{classmark_of, reference_of, run_of, message_of, flag_of}
use Rattle.message_numbers.specs.Outcomes.{read_numbers}

-- An optional identity that is present has an octet at least, as every one has that was read: numbers know no other.
abbrev pub Shown : Message → Type 0
Shown (Connect reference originator) = Unit {0}
Shown (GetStatus None) = Unit {0}
Shown (GetStatus (Some identity)) = 1 ≤ identity.count
Shown (ImmediateSetup key classmark identity reference) = Unit {0}
Shown (SetParameter attributes) = Unit {0}
Shown (Setup reference) = Unit {0}
Shown (Status cause state attributes) = Unit {0}
Shown (Termination cause) = Unit {0}
Shown (TerminationReject cause) = Unit {0}
Shown (TerminationRequest reference) = Unit {0}

-- The numbers mean this flag, this transaction value and this message.
pub record Means (n : Numbers) (flag : Bool) (value : ℕ) (message : Message) : Type 0 where
  pub meant : message_of n ≡ Some message
  pub same_flag : flag_of n ≡ flag
  pub same-value : n.value ≡ value

-- The octets at a place in `s`.
abbrev pub place_octets : List ℕ → Place → List ℕ
place_octets s place = run_octets s (run_of place)

-- The value of a half octet counts where it is there.
abbrev pub optional_numbers : Optional → List ℕ
optional_numbers o = o.there ∷ cond (eqb o.there 0) [] (o.value ∷ [])

-- The numbers of the fields that each kind carries, with the octets of its runs, which lie in `s`, in the place of where they lie.
abbrev pub carried_rows : List ℕ → Numbers → List (ℕ × List (List ℕ))
carried_rows s n =
    (IMMEDIATE-SETUP, (n.key ∷ []) ∷ classmark_octets (classmark_of n.classmark) ∷ place_octets s n.identity ∷ reference_octets (reference_of n.reference) ∷ []) ∷
    (SETUP, reference_octets (reference_of n.reference) ∷ []) ∷
    (CONNECT, reference_octets (reference_of n.reference) ∷ (n.originator ∷ []) ∷ []) ∷
    (TERMINATION, place_octets s n.cause ∷ []) ∷
    (TERMINATION-REQUEST, reference_octets (reference_of n.reference) ∷ []) ∷
    (TERMINATION-REJECT, place_octets s n.cause ∷ []) ∷
    (STATUS, place_octets s n.cause ∷ optional_numbers n.state ∷ optional_numbers n.attributes ∷ []) ∷
    (GET-STATUS, place_octets s n.identity ∷ []) ∷
    (SET-PARAMETER, (n.attributes.value ∷ []) ∷ []) ∷
    []

unfoldable pub carried : List ℕ → Numbers → List (List ℕ)
carried s n = rows n.kind [] (carried_rows s n)

-- Reading the octets `t` gives the numbers back whose runs lie in `s`: type, flag, transaction value and each field that the kind carries.
pub record GivesNumbers (protocol : Protocol) (s : List ℕ) (n : Numbers) (t : List ℕ) : Type 0 where
  pub answer : (read_numbers protocol t).answer ≡ 0
  pub fault : (read_numbers protocol t).fault ≡ 0
  pub same_kind : (read_numbers protocol t).message.kind ≡ n.kind
  pub same_flag : (read_numbers protocol t).message.flag ≡ n.flag
  pub same-value : (read_numbers protocol t).message.value ≡ n.value
  pub same-fields : carried t (read_numbers protocol t).message ≡ carried s n
