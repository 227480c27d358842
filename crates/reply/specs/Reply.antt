-- What the mobile station sends, as octets. Document 01, "Received messages".
use Rattle.std.specs.Prelude.{ℕ, ◌+◌, ◌/◌, ◌%◌, List, [], ◌∷◌, ◌++◌, Bool, cond, not, ◌&&◌, length, get_or, leb, ltb, Some}
use Rattle.codes.specs.CallStates.{call_state_code}
use Rattle.codes.specs.Attributes.{attributes_of}
use Rattle.message.specs.Content.{Content, immediate_setup, setup, termination_request, status}
use Rattle.message.specs.Tables.{written, fits}
use Rattle.codes.specs.declared.protocol.Protocol.{Protocol}
use Rattle.context.specs.declared.Context.{Context}
use Rattle.context.specs.Talk.{flag_of}
use Rattle.call.specs.declared.Sent.{Sent}
use Rattle.call.specs.Talk.{with_value}
use Rattle.transitions.specs.declared.Send.{Send}
use Rattle.transitions.specs.declared.Send.TheVariants.{Nothing, ImmediateSetup, Setup, TerminationRequest}
use Rattle.call.specs.declared.Sending.{Sending}
use Rattle.call.specs.declared.Sending.TheVariants.{OfRow, Status, ErrorStatus}
use Rattle.message.specs.declared.Own.{Own}

-- Rule 1: the transaction carries our value; we send the opposite flag of the one we expect.
abbrev pub flag_sent : Context → Bool
flag_sent x = not (flag_of x)

-- A message of the context's transaction, as octets.
unfoldable pub sent : Protocol → Context → Content → List ℕ
sent protocol x content = written protocol (flag_sent x) x.value content

-- A step's STATUS carries call state and state attributes, of the context as it is.
unfoldable pub status_of : Context → List ℕ → Content
status_of x cause = status cause (Some (call_state_code x.state)) (Some (attributes_of x.parameters))

-- 9.4.3: a cause octet, bit 8 set.
abbrev pub cause_octet : ℕ → ℕ
cause_octet cause = 128 + cause % 128

-- An error STATUS copies the whole received message behind its cause if the cause element stays within 248 octets and the STATUS within 251,
-- and otherwise omits the copy entirely. The cause element has a length octet before it.
unfoldable pub copied : Protocol → Context → ℕ → List ℕ → List ℕ
copied protocol x cause s =
    let whole : List ℕ = cause_octet cause ∷ s in
    cond (leb (1 + length whole) 248 && leb (length (sent protocol x (status_of x whole))) 251) s []

-- Where a value is awaited, a message that is reported has the value of its own transaction, bits 5 to 7 of its first octet: the report carries that.
unfoldable pub hearing : List ℕ → Context → Context
hearing s x = cond x.talk.awaiting (with_value (get_or s 0 0 / 16 % 8) x) x

-- What a row sends in the context after the step.
unfoldable pub row_of : Protocol → Own → List ℕ → Context → Send → List ℕ
row_of protocol own identity x Nothing = []
row_of protocol own identity x ImmediateSetup = sent protocol x (immediate_setup own.key own.classmark identity x.reference)
row_of protocol own identity x Setup = sent protocol x (setup x.reference)
row_of protocol own identity x TerminationRequest = sent protocol x (termination_request x.reference)

-- What the step itself sends, where `s` is the message received.
unfoldable pub own_of : Protocol → Own → List ℕ → List ℕ → Context → Sending → List ℕ
own_of protocol own identity s x (OfRow send) = row_of protocol own identity x send
own_of protocol own identity s x (Status cause) = sent protocol x (status_of x (cause_octet cause ∷ []))
own_of protocol own identity s x (ErrorStatus cause) = let y : Context = hearing s x in sent protocol y (status_of y (cause_octet cause ∷ copied protocol y cause s))

-- What was pending and is sent now: a STATUS with cause 30, "Response to GET STATUS", that tells the state and the parameters which made it due, and a TERMINATION REQUEST.
unfoldable pub status_due : Protocol → Context → Sent → List ℕ
status_due protocol x k =
    cond k.status (sent protocol x (status (cause_octet 30 ∷ []) (Some (call_state_code k.state)) (Some (attributes_of k.parameters)))) []

unfoldable pub request_due : Protocol → Context → Sent → List ℕ
request_due protocol x k = cond k.request (sent protocol x (termination_request x.reference)) []

-- The whole reply: the row's own message, then STATUS, then TERMINATION REQUEST, one behind the other.
unfoldable pub reply_of : Protocol → Own → List ℕ → List ℕ → Context → Sending → Sent → List ℕ
reply_of protocol own identity s x sends k = own_of protocol own identity s x sends ++ (status_due protocol x k ++ request_due protocol x k)

-- The same where a buffer or a field may be out of range: then nothing is written.
unfoldable pub put_content : Protocol → ℕ → Context → Content → List ℕ
put_content protocol room x content = cond (ltb room 255) [] (cond (fits protocol (flag_sent x) x.value content) (sent protocol x content) [])

-- How many octets an error STATUS copies: all up to 245, else none.
unfoldable pub copy_count : ℕ → ℕ
copy_count count = cond (leb count 245) count 0

unfoldable pub put_row : Protocol → ℕ → Own → List ℕ → Context → Send → List ℕ
put_row protocol room own identity x Nothing = []
put_row protocol room own identity x ImmediateSetup = put_content protocol room x (immediate_setup own.key own.classmark identity x.reference)
put_row protocol room own identity x Setup = put_content protocol room x (setup x.reference)
put_row protocol room own identity x TerminationRequest = put_content protocol room x (termination_request x.reference)

unfoldable pub put_of : Protocol → ℕ → Own → List ℕ → List ℕ → Context → Sending → List ℕ
put_of protocol room own identity s x (OfRow send) = put_row protocol room own identity x send
put_of protocol room own identity s x (Status cause) = put_content protocol room x (status_of x (cause_octet cause ∷ []))
put_of protocol room own identity s x (ErrorStatus cause) =
    let y : Context = hearing s x in put_content protocol room y (status_of y (cause_octet cause ∷ copied protocol y cause s))

-- Octets behind others, where there is room for them, and else without them.
unfoldable pub behind : ℕ → List ℕ → List ℕ → List ℕ
behind room first octets = cond (leb (length first + length octets) room) (first ++ octets) first

-- What is put where a message may be out of range.
unfoldable pub put_due : Protocol → Bool → Context → Content → List ℕ
put_due protocol due x content = cond due (cond (fits protocol (flag_sent x) x.value content) (sent protocol x content) []) []

unfoldable pub put_all : Protocol → ℕ → Own → List ℕ → List ℕ → Context → Sending → Sent → List ℕ
put_all protocol room own identity s x sends k =
    behind room
    (behind room (put_of protocol room own identity s x sends)
    (put_due protocol k.status x (status (cause_octet 30 ∷ []) (Some (call_state_code k.state)) (Some (attributes_of k.parameters)))))
    (put_due protocol k.request x (termination_request x.reference))
