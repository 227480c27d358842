-- A group call in so many words: what waits in it, and runs of it. 24.068, 6.4.1 and 6.5.1.1: a request and a response that can't be sent yet are pending, and are sent
-- "as soon as COMM = T".
use Rattle.std.specs.Prelude.{ℕ, ◌+◌, List, [], ◌∷◌, Bool, true, false, cond, not, ◌&&◌, ◌||◌, eqb}
use Rattle.codes.specs.declared.state.State.TheVariants.{U5, U2ws}
use Rattle.codes.specs.MessageTypes.{GET-STATUS}
use Rattle.timer.specs.declared.Timer.TheVariants.{Term}
use Rattle.timer.specs.Timers.{timer_number, alone}
use Rattle.version.specs.declared.Table.TheVariants.{Group}
use Rattle.context.specs.declared.Context.{Context}
use Rattle.context.specs.declared.Talk.{Talk}
use Rattle.context.specs.Context.{start_row, entering}
use Rattle.context.specs.Remembered.{remembering}
use Rattle.transitions.specs.declared.Send.TheVariants as Send
use Rattle.call.specs.declared.Due.{Due}
use Rattle.call.specs.declared.Due.TheVariants.{Steps, Ignored, Reported, Refused}
use Rattle.call.specs.declared.Seen.{Seen}
use Rattle.call.specs.declared.Sending.{Sending}
use Rattle.call.specs.declared.Sending.TheVariants.{OfRow, Status, ErrorStatus}
use Rattle.call.specs.declared.Sent.{Sent}
use Rattle.call.specs.declared.Settled.{Settled}
use Rattle.call.specs.Events.{seen_of}
use Rattle.call.specs.Talk.{with_value}
use Rattle.call.specs.Step.{silent}
use Rattle.call.specs.Due.{settled}

-- ---- contexts

-- The context with something else kept of the group call.
abbrev pub with_talk : Talk → Context → Context
with_talk k x =
    record { state = x.state; parameters = x.parameters; timers = x.timers; value = x.value; reference = x.reference; remembered = x.remembered; talk = k }

-- The context with a termination request waiting, or none; and with a STATUS waiting.
abbrev pub with_request : Bool → Context → Context
with_request waits x = with_talk (record { chooser = x.talk.chooser; termination = waits; status = x.talk.status; awaiting = x.talk.awaiting }) x

abbrev pub with_status : Bool → Context → Context
with_status waits x = with_talk (record { chooser = x.talk.chooser; termination = x.talk.termination; status = waits; awaiting = x.talk.awaiting }) x

-- U5, where a request was sent from a context: its start row, T_term alone, and the state remembered; value, reference and whoever chose the value stay, and nothing waits.
abbrev pub terminating : Context → Context
terminating x = record {
  state = U5;
  parameters = start_row U5;
  timers = alone (timer_number Term);
  value = x.value;
  reference = x.reference;
  remembered = remembering x.state;
  talk = record { chooser = x.talk.chooser; termination = false; status = false; awaiting = false };
}

-- U2ws, where the radio asks to talk, entered from a context: ORIG is kept.
abbrev pub asking_to_talk : Context → Context
asking_to_talk x = record {
  state = U2ws;
  parameters = entering U2ws x.parameters;
  timers = x.timers;
  value = x.value;
  reference = x.reference;
  remembered = x.remembered;
  talk = x.talk;
}

-- The same to answer a GET STATUS: without ORIG the value of the next message is awaited there.
abbrev pub asking_to_answer : Context → Context
asking_to_answer x =
    asking_to_talk (with_talk (record { chooser = x.talk.chooser; termination = x.talk.termination; status = true; awaiting = not x.parameters.orig }) x)

-- The context that a message with this value is taken in: where a value was awaited, it is this one.
abbrev pub given : ℕ → Context → Context
given value x = cond x.talk.awaiting (with_value value x) x

-- ---- steps

-- Answer 0 with these actions. The row sends nothing itself; of what waited this is sent.
abbrev pub comes : Context → ℕ → Sent → Settled
comes x actions sent = record { answer = 0; reason = 0; context = x; actions = actions; sends = silent; sent = sent }

-- A TERMINATION REQUEST alone, and a STATUS alone that tells of a context.
abbrev pub a_request : Context → Sent
a_request x = record { status = false; request = true; state = x.state; parameters = x.parameters }

abbrev pub a_status : Context → Sent
a_status x = record { status = true; request = false; state = x.state; parameters = x.parameters }

-- A TERMINATION REQUEST goes out with a step: the row's own, or one that waited.
abbrev pub as_row : Sending → Bool
as_row (OfRow Send.Nothing) = false
as_row (OfRow Send.ImmediateSetup) = false
as_row (OfRow Send.Setup) = false
as_row (OfRow Send.TerminationRequest) = true
as_row (Status cause) = false
as_row (ErrorStatus cause) = false

abbrev pub sends_request : Settled → Bool
sends_request r = r.sent.request || as_row r.sends

-- ORIG and COMM are both true behind a step, before that makes anything due.
abbrev pub both_true : Settled → Bool
both_true r = r.sent.parameters.orig && r.sent.parameters.comm

-- The event's number, 0 where none is due; and whether a GET STATUS is.
abbrev pub number_due : Due → ℕ
number_due (Steps event) = (seen_of event).number
number_due (Ignored reason) = 0
number_due (Reported cause) = 0
number_due Refused = 0

abbrev pub asks_status : Due → Bool
asks_status (Steps event) = let e : Seen = seen_of event in eqb e.number 18 && eqb e.code GET-STATUS
asks_status (Ignored reason) = false
asks_status (Reported cause) = false
asks_status Refused = false

-- ---- runs: what is due, one behind the other, by the table of a group call

-- The context that a run leads to.
abbrev pub leads_to : Context → List Due → Context
leads_to x [] = x
leads_to x (due ∷ more) = leads_to (settled Group x due).context more

-- How many of its steps send something.
abbrev pub how_often : (Settled → Bool) → Context → List Due → ℕ
how_often sends x [] = 0
how_often sends x (due ∷ more) = cond (sends (settled Group x due)) 1 0 + how_often sends (settled Group x due).context more

-- What holds of each context that it comes to, and of each that is due in it.
abbrev pub Throughout : (Context → Type 0) → Context → List Due → Type 0
Throughout P x [] = Unit {0}
Throughout P x (due ∷ more) = P (settled Group x due).context × Throughout P (settled Group x due).context more

abbrev pub Each : (Due → Type 0) → List Due → Type 0
Each P [] = Unit {0}
Each P (due ∷ more) = P due × Each P more
