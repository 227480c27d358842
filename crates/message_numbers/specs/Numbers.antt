-- A message as numbers: which numbers each kind has, and which message numbers mean. What a kind does not carry is zero, and has no effect on the way back.
use Rattle.std.specs.Prelude.{ℕ, List, [], ◌∷◌, Bool, cond, ◌&&◌, leb, eqb, Option, Some, None}
use Rattle.octets.specs.Rows.{rows}
use Rattle.codes.specs.MessageTypes.{
  IMMEDIATE-SETUP,
  SETUP,
  CONNECT,
  TERMINATION,
  TERMINATION-REQUEST,
  TERMINATION-REJECT,
  STATUS,
  GET-STATUS,
  SET-PARAMETER,
}
use Rattle.octets.specs.declared.Run.{Run}
use Rattle.octets.specs.declared.Reference.{Reference}
use Rattle.message.specs.declared.Classmark.{Classmark}
use Rattle.message.specs.declared.Message.{Message}
use Rattle.message.specs.declared.Message.TheVariants.{
  Connect,
  GetStatus,
  ImmediateSetup,
  SetParameter,
  Setup,
  Status,
  Termination,
  TerminationReject,
  TerminationRequest,
}
use Rattle.message_numbers.specs.declared.Three.{Three}
use Rattle.message_numbers.specs.declared.Four.{Four}
use Rattle.message_numbers.specs.declared.Optional.{Optional}
use Rattle.message_numbers.specs.declared.Place.{Place}
use Rattle.message_numbers.specs.declared.Numbers.{Numbers}

abbrev pub three_of : Classmark → Three
three_of c = record { first = c.first; second = c.second; third = c.third }

abbrev pub four_of : Reference → Four
four_of r = record { first = r.first; second = r.second; third = r.third; fourth = r.fourth }

-- 1 and the value of a half octet that is there; 0 and 0 of one that is not.
abbrev pub optional_of : Option ℕ → Optional
optional_of None = record { there = 0; value = 0 }
optional_of (Some value) = record { there = 1; value = value }

abbrev pub place_of : Run → Place
place_of run = record { start = run.start; count = run.count }

abbrev pub nowhere : Place
nowhere = record { start = 0; count = 0 }

abbrev pub identity_place : Option Run → Place
identity_place None = nowhere
identity_place (Some run) = place_of run

abbrev pub flag_number : Bool → ℕ
flag_number flag = cond flag 1 0

abbrev pub no_three : Three
no_three = record { first = 0; second = 0; third = 0 }

abbrev pub no_four : Four
no_four = record { first = 0; second = 0; third = 0; fourth = 0 }

abbrev pub unsaid : Optional
unsaid = optional_of None

-- A message's numbers, in the order of the struct's fields.
abbrev pub numbers : ℕ → ℕ → ℕ → ℕ → Three → Four → ℕ → Optional → Optional → Place → Place → Numbers
numbers kind flag value key classmark reference originator state attributes identity cause = record {
  kind = kind;
  flag = flag;
  value = value;
  key = key;
  classmark = classmark;
  reference = reference;
  originator = originator;
  state = state;
  attributes = attributes;
  identity = identity;
  cause = cause;
}

-- A message that carries nothing behind its first two octets.
abbrev pub blank : ℕ → ℕ → ℕ → Numbers
blank kind flag value = numbers kind flag value 0 no_three no_four 0 unsaid unsaid nowhere nowhere

-- SET PARAMETER's attributes are mandatory, so nothing says that they are there.
abbrev pub mandatory : ℕ → Optional
mandatory attributes = record { there = 0; value = attributes }

-- The numbers of a message with its flag and transaction value, a line a kind: type, flag, value, key, classmark, reference, originator, state, attributes,
-- identity, cause.
unfoldable pub numbers_of : Bool → ℕ → Message → Numbers
numbers_of f v (Connect r o) = numbers CONNECT (flag_number f) v 0 no_three (four_of r) o unsaid unsaid nowhere nowhere
numbers_of f v (GetStatus i) = numbers GET-STATUS (flag_number f) v 0 no_three no_four 0 unsaid unsaid (identity_place i) nowhere
numbers_of f v (ImmediateSetup k c i r) = numbers IMMEDIATE-SETUP (flag_number f) v k (three_of c) (four_of r) 0 unsaid unsaid (place_of i) nowhere
numbers_of f v (SetParameter a) = numbers SET-PARAMETER (flag_number f) v 0 no_three no_four 0 unsaid (mandatory a) nowhere nowhere
numbers_of f v (Setup r) = numbers SETUP (flag_number f) v 0 no_three (four_of r) 0 unsaid unsaid nowhere nowhere
numbers_of f v (Status c x y) = numbers STATUS (flag_number f) v 0 no_three no_four 0 (optional_of x) (optional_of y) nowhere (place_of c)
numbers_of f v (Termination c) = numbers TERMINATION (flag_number f) v 0 no_three no_four 0 unsaid unsaid nowhere (place_of c)
numbers_of f v (TerminationReject c) = numbers TERMINATION-REJECT (flag_number f) v 0 no_three no_four 0 unsaid unsaid nowhere (place_of c)
numbers_of f v (TerminationRequest r) = numbers TERMINATION-REQUEST (flag_number f) v 0 no_three (four_of r) 0 unsaid unsaid nowhere nowhere

abbrev pub classmark_of : Three → Classmark
classmark_of t = record { first = t.first; second = t.second; third = t.third }

abbrev pub reference_of : Four → Reference
reference_of f = record { first = f.first; second = f.second; third = f.third; fourth = f.fourth }

abbrev pub half_of : Optional → Option ℕ
half_of o = cond (eqb o.there 0) None (Some o.value)

abbrev pub run_of : Place → Run
run_of p = record { start = p.start; count = p.count }

-- An identity of no octets is absent.
abbrev pub identity_of : Place → Option Run
identity_of p = cond (eqb p.count 0) None (Some (run_of p))

-- What says whether a half octet of a STATUS is there is 0 or 1.
unfoldable pub status_of : Run → Optional → Optional → Option Message
status_of cause state attributes =
    cond (leb state.there 1 && leb attributes.there 1) (Some (Status cause (half_of state) (half_of attributes))) None

-- The message of each type.
abbrev pub kind_rows : Numbers → List (ℕ × Option Message)
kind_rows n =
    (IMMEDIATE-SETUP, Some (ImmediateSetup n.key (classmark_of n.classmark) (run_of n.identity) (reference_of n.reference))) ∷
    (SETUP, Some (Setup (reference_of n.reference))) ∷
    (CONNECT, Some (Connect (reference_of n.reference) n.originator)) ∷
    (TERMINATION, Some (Termination (run_of n.cause))) ∷
    (TERMINATION-REQUEST, Some (TerminationRequest (reference_of n.reference))) ∷
    (TERMINATION-REJECT, Some (TerminationReject (run_of n.cause))) ∷
    (STATUS, status_of (run_of n.cause) n.state n.attributes) ∷
    (GET-STATUS, Some (GetStatus (identity_of n.identity))) ∷
    (SET-PARAMETER, Some (SetParameter n.attributes.value)) ∷
    []

unfoldable pub kind_of : Numbers → Option Message
kind_of n = rows n.kind None (kind_rows n)

-- The message that numbers mean: the flag is 0 or 1, and the type one of the nine.
unfoldable pub message_of : Numbers → Option Message
message_of n = cond (leb n.flag 1) (kind_of n) None

-- Its flag.
abbrev pub flag_of : Numbers → Bool
flag_of n = eqb n.flag 1
