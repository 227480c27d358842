-- Document 01, "Answer numbers": the step as the host has it, its tests in their order, and what it answers and writes.
use Rattle.std.specs.Prelude.{ℕ, List, [], ◌∷◌, ◌++◌, cond, not, length, eqb, Option, Some, None}
use Rattle.octets.specs.Rows.{rows}
use Rattle.octets.specs.declared.Reference.{Reference}
use Rattle.codes.specs.declared.protocol.Protocol.{Protocol}
use Rattle.version.specs.declared.Table.{Table}
use Rattle.version.specs.Version.{has_event, protocol_of}
use Rattle.context.specs.declared.Context.{Context}
use Rattle.fitness.specs.Tables.{fit_of}
use Rattle.call.specs.declared.Due.{Due}
use Rattle.call.specs.declared.Due.TheVariants.{Steps, Refused}
use Rattle.call.specs.declared.Event.TheVariants.{
  SetUp,
  ImmediateSetUp,
  Join,
  Terminate,
  Release,
  Established,
  EstablishmentFailed,
  LinkFailure,
  AbortDetected,
  Notified,
  ReceiveModeEntered,
  NoChannel,
  ChannelAvailable,
  MmEstExpired,
  TermExpired,
  ConnReqExpired,
  NoChannelExpired,
  PresExpired,
  ReceiveModeRequested,
  TalkRequested,
  TransmitModeEntered,
  DedicatedModeEntered,
  TerminationDeleted,
}
use Rattle.call.specs.declared.Settled.{Settled}
use Rattle.call.specs.Due.{settled}
use Rattle.message.specs.declared.Own.{Own}
use Rattle.reply.specs.Reply.{reply_of, put_all}
use Rattle.step_arguments.specs.Arguments.{argument_refusal}
use Rattle.radio.specs.declared.Happened.{Happened}
use Rattle.radio.specs.declared.Stepped.{Stepped}
use Rattle.call.specs.declared.Event.{Event}
use Rattle.received.specs.Due.{due_of}

-- Event numbers. 18, message received, goes by "Received messages".
abbrev pub call_events : ℕ → Reference → List (ℕ × Option Event)
call_events value reference =
    (1, Some (SetUp value reference)) ∷  -- set-up request
    (2, Some (ImmediateSetUp value reference)) ∷  -- immediate set-up request
    (3, Some Join) ∷  -- join
    (4, Some Terminate) ∷  -- terminate
    (5, Some Release) ∷  -- release
    (6, Some Established) ∷  -- MM connection established
    (7, Some EstablishmentFailed) ∷  -- MM establishment failed
    (8, Some LinkFailure) ∷  -- radio link failure
    (9, Some AbortDetected) ∷  -- abort or release detected
    (10, Some (Notified value reference)) ∷  -- broadcast notified
    (11, Some ReceiveModeEntered) ∷  -- group receive mode entered
    (12, Some NoChannel) ∷  -- no channel
    (13, Some ChannelAvailable) ∷  -- channel available
    (14, Some MmEstExpired) ∷  -- expiry of T_MM-est
    (15, Some TermExpired) ∷  -- expiry of T_term
    (16, Some ConnReqExpired) ∷  -- expiry of T_conn req
    (17, Some NoChannelExpired) ∷  -- expiry of T_no channel
    (18, None) ∷  -- message received
    (19, Some PresExpired) ∷  -- expiry of T_pres
    []

-- A group call has five more, from 32 on.
abbrev pub talk_events : List (ℕ × Option Event)
talk_events =
    (32, Some ReceiveModeRequested) ∷  -- request receive mode: stop talking
    (33, Some TalkRequested) ∷  -- request talk: the uplink
    (34, Some TransmitModeEntered) ∷  -- group transmit mode entered
    (35, Some DedicatedModeEntered) ∷  -- dedicated mode entered
    (36, Some TerminationDeleted) ∷  -- delete the pending termination request
    []

abbrev pub events : ℕ → Reference → List (ℕ × Option Event)
events value reference = call_events value reference ++ talk_events

unfoldable pub event_of : ℕ → ℕ → Reference → Option Event
event_of number value reference = rows number None (events value reference)

-- The event of a number is due; a number without an event comes to no step. (It is refused before.)
unfoldable pub told_due : Option Event → Due
told_due (Some event) = Steps event
told_due None = Refused

-- What is due where an event happens: a message goes by "Received messages", any other event by its number.
unfoldable pub due_to : Table → List ℕ → Context → Happened → List ℕ → Due
due_to table identity x h s = cond (eqb h.number 18) (due_of table identity x h.mode s) (told_due (event_of h.number h.value h.reference))

-- What is due, done.
unfoldable pub reacted_to : Table → List ℕ → Context → Happened → List ℕ → Settled
reacted_to table identity x h s = settled table x (due_to table identity x h s)

-- What a step comes to: answer number, the reason beside answer 1, context afterwards, actions, reply octets.
pub record Reaction : Type 0 where
  pub answer : ℕ
  pub reason : ℕ
  pub context : Context
  pub actions : ℕ
  pub reply : List ℕ

-- A refusal changes nothing lent.
abbrev pub refused : ℕ → Context → Reaction
refused answer x = record { answer = answer; reason = 0; context = x; actions = 0; reply = [] }

-- A step that is not refused, with what it sends as octets.
abbrev pub reacted : Protocol → Own → List ℕ → List ℕ → Settled → Reaction
reacted protocol own identity s taken = record {
  answer = taken.answer;
  reason = taken.reason;
  context = taken.context;
  actions = taken.actions;
  reply = reply_of protocol own identity s taken.context taken.sends taken.sent;
}

-- Why a step is refused, as the answer's number, and 0 where it is not; in two parts. The first: 7, the context is not fit.
-- The second, whatever the context, goes by the step's arguments: 5, 6 and 4 (`argument_refusal`).
unfoldable pub fitness_refusal : Table → Context → ℕ
fitness_refusal table x = cond (not (fit_of table x)) 7 0

-- Test order for a step: 7, 5, 6, 4,
unfoldable pub refusal_of : Table → Context → ℕ → ℕ → Happened → ℕ → ℕ → ℕ
refusal_of table x key identity h octets room =
    cond (eqb (fitness_refusal table x) 0) (argument_refusal (has_event table h.number) key identity h.number h.value h.mode octets room) (fitness_refusal table x)

-- then the rest.
unfoldable pub step_of : Table → Own → List ℕ → ℕ → Context → Happened → List ℕ → Reaction
step_of table own identity room x h s =
    let refusal : ℕ = refusal_of table x own.key (length identity) h (length s) room in
    cond (eqb refusal 0) (reacted (protocol_of table) own identity s (reacted_to table identity x h s)) (refused refusal x)

-- The step without its tests, for any arguments: the reply is what the lent buffer takes. Where no test refuses it is the step.
unfoldable pub taken_of : Table → Own → List ℕ → ℕ → Context → Happened → List ℕ → Reaction
taken_of table own identity room x h s =
    let taken : Settled = reacted_to table identity x h s in
    record {
      answer = taken.answer;
      reason = taken.reason;
      context = taken.context;
      actions = taken.actions;
      reply = put_all (protocol_of table) room own identity s taken.context taken.sends taken.sent;
    }

-- A reaction as the code's result: the reply's octets stand in the buffer, and the result has their count.
abbrev pub shown : Reaction → Stepped
shown r = record { context = r.context; outcome = record { answer = r.answer; reason = r.reason; actions = r.actions; count = length r.reply } }
