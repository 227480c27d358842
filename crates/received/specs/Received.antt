-- Document 01, "Received messages, in this order": what the rules ask of a message.
use Rattle.std.specs.Prelude.{ℕ, ◌+◌, ◌/◌, ◌%◌, ◌≤◌, List, [], ◌∷◌, Bool, true, false, cond, not, ◌&&◌, length, eqb, leb, Option, Some, None}
use Rattle.codes.specs.declared.protocol.Protocol.{Protocol}
use Rattle.codes.specs.declared.protocol.Protocol.TheVariants.{Broadcast, Group}
use Rattle.octets.specs.declared.Run.{Run}
use Rattle.message.specs.declared.Message.{Message}
use Rattle.message.specs.declared.Message.TheVariants.{
  Connect,
  GetStatus,
  ImmediateSetup,
  SetParameter,
  Setup,
  Status,
  Termination,
  TerminationReject,
  TerminationRequest,
}
use Rattle.message.specs.Content.{run_octets}
use Rattle.message.specs.Tables.{transaction}
use Rattle.version.specs.declared.Table.{Table}
use Rattle.context.specs.declared.Context.{Context}
use Rattle.context.specs.Talk.{flag_of}
use Rattle.transitions.specs.declared.Decision.{Decision}
use Rattle.transitions.specs.declared.Decision.TheVariants.{Take, NoStep, Ignore, Report, TellStatus, SetParameters}
use Rattle.transitions.specs.Table.{decided_of}
use Rattle.received.specs.declared.Asked.{Asked}

-- Rule 1: the upper half of octet 1 carries this flag and this value.
unfoldable pub transaction_is : Bool → ℕ → ℕ → Bool
transaction_is flag value first = eqb (first / 16) (transaction flag value)

-- In a group call that awaits a value it carries this flag and any value from 0 to 6.
unfoldable pub awaited_is : Bool → ℕ → Bool
awaited_is flag first = cond flag (leb 8 (first / 16) && leb (first / 16) 14) (leb (first / 16) 6)

unfoldable pub transaction_fits : Context → ℕ → Bool
transaction_fits x first = cond x.talk.awaiting (awaited_is (flag_of x) first) (transaction_is (flag_of x) x.value first)

-- The cause that a decision reports, and 0 where it reports none.
unfoldable pub cause_in : Decision → ℕ
cause_in (Take taken) = 0
cause_in NoStep = 0
cause_in Ignore = 0
cause_in (Report cause) = cause
cause_in TellStatus = 0
cause_in SetParameters = 0

-- Rule 2: the cause that a type octet is reported with: 97 for an unknown type, 98 for a type with no row or sentence in this state, or one the MS sends;
-- 0 where it is neither. Type bit 7 is read as anything.
unfoldable pub type_cause : Table → Context → ℕ → ℕ
type_cause table x kind = cond (leb 128 kind) 97 (cause_in (decided_of table x 18 (kind % 64)))

abbrev asks : Option Run → Bool → Asked
asks identity disowns = record { identity = identity; disowns = disowns }

-- Rule 4: which mobile identity a message has. Only GET STATUS has one.
-- Rule 5: whether it is a CONNECT that doesn't name us as originator.
unfoldable pub asked_of : Message → Asked
asked_of (Connect reference originator) = asks None (not (eqb originator 1))
asked_of (GetStatus identity) = asks identity false
asked_of (ImmediateSetup key classmark identity reference) = asks None false
asked_of (SetParameter attributes) = asks None false
asked_of (Setup reference) = asks None false
asked_of (Status cause state attributes) = asks None false
asked_of (Termination cause) = asks None false
asked_of (TerminationReject cause) = asks None false
asked_of (TerminationRequest reference) = asks None false

-- In a broadcast call a CONNECT must name us. In a group call it says whether we are the originator.
abbrev pub must_name_us : Protocol → Bool
must_name_us Broadcast = true
must_name_us Group = false

-- Octet for octet, length included.
unfoldable pub same_octets : List ℕ → List ℕ → Bool
same_octets [] [] = true
same_octets [] (y ∷ ys) = false
same_octets (x ∷ xs) [] = false
same_octets (x ∷ xs) (y ∷ ys) = eqb x y && same_octets xs ys

-- A mobile identity other than ours.
unfoldable pub is_other : List ℕ → List ℕ → Option Run → Bool
is_other ours s None = false
is_other ours s (Some run) = not (same_octets (run_octets s run) ours)

-- The run of an identity lies within the octets.
unfoldable pub Within : List ℕ → Option Run → Type 0
Within s None = Unit {0}
Within s (Some run) = run.start + run.count ≤ length s
