-- The messages of a reply: a step of answer 0 sends none, one, or two, one behind the other, and the length of the reply says which.
use Rattle.std.specs.Prelude.{ℕ, ◌≡◌, List, [], ◌∷◌, ◌++◌, ◌⊎◌, length, Some}
use Rattle.codes.specs.declared.state.State.{State}
use Rattle.codes.specs.declared.attributes.Parameters.{Parameters}
use Rattle.codes.specs.declared.protocol.Protocol.{Protocol}
use Rattle.codes.specs.CallStates.{call_state_code}
use Rattle.codes.specs.Attributes.{attributes_of}
use Rattle.codes.specs.MessageTypes.{SETUP, TERMINATION-REQUEST, STATUS}
use Rattle.message.specs.Content.{Content, status}
use Rattle.message.specs.Tables.{type_of}
use Rattle.context.specs.declared.Context.{Context}
use Rattle.reply.specs.Reply.{sent, cause_octet}

-- No message, or one of the call's transaction.
abbrev pub OneAtMost : Protocol → Context → List ℕ → Type 0
OneAtMost protocol x reply = (reply ≡ []) ⊎ ((message : Content) × (reply ≡ sent protocol x message))

-- Which two go together: SETUP and STATUS, or STATUS and TERMINATION REQUEST.
abbrev pub Pair : Content → Content → Type 0
Pair first second = ((type_of first ≡ SETUP) × (type_of second ≡ STATUS)) ⊎ ((type_of first ≡ STATUS) × (type_of second ≡ TERMINATION-REQUEST))

-- A STATUS with cause 30, "Response to GET STATUS", that tells a state and parameters.
abbrev pub response : State → Parameters → Content
response state parameters = status (cause_octet 30 ∷ []) (Some (call_state_code state)) (Some (attributes_of parameters))

-- Two messages, one behind the other; each has six octets.
pub record Two (protocol : Protocol) (x : Context) (reply : List ℕ) : Type 0 where
  pub first : Content
  pub second : Content
  pub pair : Pair first second
  pub joined : reply ≡ sent protocol x first ++ sent protocol x second
  pub first_six : length (sent protocol x first) ≡ 6
  pub second_six : length (sent protocol x second) ≡ 6

-- A reply of twelve octets is two messages, and no other reply is.
pub record Parted (protocol : Protocol) (x : Context) (reply : List ℕ) : Type 0 where
  pub twelve : length reply ≡ 12 → Two protocol x reply
  pub other : (length reply ≡ 12 → ⊥) → OneAtMost protocol x reply
