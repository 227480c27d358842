-- What writing a message comes to, where its runs lie in `s`.
use Rattle.std.specs.Prelude.{ℕ, ◌+◌, List, [], ◌∷◌, ◌++◌, cond, leb, ltb, length, Some}
use Rattle.octets.specs.declared.Run.{Run}
use Rattle.codes.specs.declared.state.State.{State}
use Rattle.codes.specs.declared.attributes.Parameters.{Parameters}
use Rattle.codes.specs.CallStates.{call_state_code}
use Rattle.codes.specs.Attributes.{attributes_of}
use Rattle.message.specs.declared.Message.{Message}
use Rattle.message.specs.declared.Message.TheVariants.{TerminationRequest, Status}
use Rattle.message.specs.Content.{Content, status}
use Rattle.message.specs.Tables.{written, fits}
use Rattle.writing.specs.Writing.{writable, octets_written}
use Rattle.codes.specs.declared.protocol.Protocol.{Protocol}
use Rattle.context.specs.declared.Context.{Context}
use Rattle.call.specs.declared.Sent.{Sent}
use Rattle.reply.specs.declared.Sender.{Sender}
use Rattle.reply.specs.Reply.{flag_sent}

-- What a message has of the context that it is sent in.
abbrev pub sender_of : Context → Sender
sender_of x = record { flag = flag_sent x; value = x.value; state = x.state; parameters = x.parameters }

-- The message's octets, and none where it can't be written.
unfoldable pub message_from : Protocol → List ℕ → Sender → Message → List ℕ
message_from protocol s by message = cond (writable protocol s by.flag by.value message) (octets_written protocol s by.flag by.value message) []

unfoldable pub put_from : Protocol → ℕ → List ℕ → Sender → Message → List ℕ
put_from protocol room s by message = cond (ltb room 255) [] (message_from protocol s by message)

-- The same where the message is given by its content, and what a STATUS has then.
unfoldable pub put_by : Protocol → ℕ → Sender → Content → List ℕ
put_by protocol room by content = cond (ltb room 255) [] (cond (fits protocol by.flag by.value content) (written protocol by.flag by.value content) [])

unfoldable pub status_by : Sender → List ℕ → Content
status_by by cause = status cause (Some (call_state_code by.state)) (Some (attributes_of by.parameters))

-- A STATUS that tells a state and parameters, where its cause lies in a run.
abbrev pub status_telling : Run → State → Parameters → Message
status_telling cause state parameters = Status cause (Some (call_state_code state)) (Some (attributes_of parameters))

-- Octets behind the first `at`, where there is room for them, and else none.
unfoldable pub placed : ℕ → ℕ → List ℕ → List ℕ
placed room at octets = cond (leb (at + length octets) room) octets []

-- What was pending, put behind the first `at`: a STATUS, whose cause octet is its whole source, then a TERMINATION REQUEST.
unfoldable pub pending_of : Protocol → ℕ → ℕ → Context → Sent → List ℕ
pending_of protocol room at x k =
    let source : List ℕ = 158 ∷ [] in
    let status : List ℕ =
    placed room at (cond k.status (message_from protocol source (sender_of x) (status_telling (record { start = 0; count = 1 }) k.state k.parameters)) []) in
    status ++ placed room (at + length status) (cond k.request (message_from protocol source (sender_of x) (TerminationRequest x.reference)) [])
