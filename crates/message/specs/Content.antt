-- What a message says: the message with the octets of its runs in the place of where they lie.
use Rattle.std.specs.Prelude.{ℕ, ◌+◌, List, [], ◌∷◌, Bool, true, length, leb, Option, Some, None, option_map}
use Rattle.octets.specs.Run.{part}
use Rattle.octets.specs.declared.Run.{Run}
use Rattle.octets.specs.declared.Reference.{Reference}
use Rattle.message.specs.declared.Classmark.{Classmark}
use Rattle.message.specs.declared.Message.{Message}
use Rattle.message.specs.declared.Message.TheVariants.{
  Connect,
  GetStatus,
  ImmediateSetup,
  SetParameter,
  Setup,
  Status,
  Termination,
  TerminationReject,
  TerminationRequest,
}

-- The nine messages, in the order of clause 8.
pub data Content : Type 0 where
  connect : (reference : Reference) (originator : ℕ) → Content
  get_status : (identity : Option (List ℕ)) → Content
  immediate_setup : (key : ℕ) (classmark : Classmark) (identity : List ℕ) (reference : Reference) → Content
  set_parameter : (attributes : ℕ) → Content
  setup : (reference : Reference) → Content
  status : (cause : List ℕ) (state attributes : Option ℕ) → Content
  termination : (cause : List ℕ) → Content
  termination_reject : (cause : List ℕ) → Content
  termination_request : (reference : Reference) → Content

-- The octets of a run in `s`.
abbrev pub run_octets : List ℕ → Run → List ℕ
run_octets s run = part s run.start run.count

abbrev pub identity_octets : List ℕ → Option Run → Option (List ℕ)
identity_octets s identity = option_map (run_octets s) identity

-- What a message says whose runs lie in `s`.
abbrev pub content_of : List ℕ → Message → Content
content_of s (Connect reference originator) = connect reference originator
content_of s (GetStatus identity) = get_status (identity_octets s identity)
content_of s (ImmediateSetup key classmark identity reference) = immediate_setup key classmark (run_octets s identity) reference
content_of s (SetParameter attributes) = set_parameter attributes
content_of s (Setup reference) = setup reference
content_of s (Status cause state attributes) = status (run_octets s cause) state attributes
content_of s (Termination cause) = termination (run_octets s cause)
content_of s (TerminationReject cause) = termination_reject (run_octets s cause)
content_of s (TerminationRequest reference) = termination_request reference

-- The run lies within `s`.
unfoldable pub lies : List ℕ → Run → Bool
lies s run = leb (run.start + run.count) (length s)

-- Each run of the message lies within `s`.
abbrev pub runs_lie : List ℕ → Message → Bool
runs_lie s (Connect reference originator) = true
runs_lie s (GetStatus None) = true
runs_lie s (GetStatus (Some identity)) = lies s identity
runs_lie s (ImmediateSetup key classmark identity reference) = lies s identity
runs_lie s (SetParameter attributes) = true
runs_lie s (Setup reference) = true
runs_lie s (Status cause state attributes) = lies s cause
runs_lie s (Termination cause) = lies s cause
runs_lie s (TerminationReject cause) = lies s cause
runs_lie s (TerminationRequest reference) = true

abbrev pub reference_octets : Reference → List ℕ
reference_octets r = r.first ∷ r.second ∷ r.third ∷ r.fourth ∷ []

abbrev pub classmark_octets : Classmark → List ℕ
classmark_octets c = c.first ∷ c.second ∷ c.third ∷ []
