-- Document 01, "Events and steps": event numbers, and what an event carries.
use Rattle.std.specs.Prelude.{ℕ}
use Rattle.codes.specs.MessageTypes.{
  IMMEDIATE-SETUP,
  SETUP,
  CONNECT,
  TERMINATION,
  TERMINATION-REQUEST,
  TERMINATION-REJECT,
  STATUS,
  GET-STATUS,
  SET-PARAMETER,
}
use Rattle.octets.specs.declared.Reference.{Reference}
use Rattle.message.specs.declared.Message.{Message}
use Rattle.call.specs.declared.Event.{Event}
use Rattle.call.specs.declared.Seen.{Seen}

-- What is not carried is 0.
abbrev pub no_reference : Reference
no_reference = record { first = 0; second = 0; third = 0; fourth = 0 }

-- An event that carries nothing.
abbrev pub bare : ℕ → Seen
bare number = record { number = number; code = 0; value = 0; reference = no_reference; attributes = 0 }

-- Events 1, 2 and 10 carry a transaction value and a reference.
abbrev pub carrying : ℕ → ℕ → Reference → Seen
carrying number value reference = record { number = number; code = 0; value = value; reference = reference; attributes = 0 }

-- A message received, by its type, with its transaction value.
abbrev pub heard : ℕ → ℕ → Reference → ℕ → Seen
heard code value reference attributes = record { number = 18; code = code; value = value; reference = reference; attributes = attributes }

-- Of the messages that have a row or a sentence, CONNECT carries a reference and an originator, which is the bit of ORIG in state attributes, and SET PARAMETER state
-- attributes.
unfoldable pub seen_message : ℕ → Message → Seen
seen_message value (Message.Connect reference originator) = heard CONNECT value reference originator
seen_message value (Message.GetStatus identity) = heard GET-STATUS value no_reference 0
seen_message value (Message.ImmediateSetup key classmark identity reference) = heard IMMEDIATE-SETUP value no_reference 0
seen_message value (Message.SetParameter attributes) = heard SET-PARAMETER value no_reference attributes
seen_message value (Message.Setup reference) = heard SETUP value no_reference 0
seen_message value (Message.Status cause state attributes) = heard STATUS value no_reference 0
seen_message value (Message.Termination cause) = heard TERMINATION value no_reference 0
seen_message value (Message.TerminationReject cause) = heard TERMINATION-REJECT value no_reference 0
seen_message value (Message.TerminationRequest reference) = heard TERMINATION-REQUEST value no_reference 0

-- The events: eighteen of document 01; the expiry of the invitation timer, "event 19"; and "new events numbered from 32", those of a group call.
unfoldable pub seen_of : Event → Seen
seen_of (Event.SetUp value reference) = carrying 1 value reference  -- set-up request
seen_of (Event.ImmediateSetUp value reference) = carrying 2 value reference  -- immediate set-up request
seen_of Event.Join = bare 3  -- join
seen_of Event.Terminate = bare 4  -- terminate
seen_of Event.Release = bare 5  -- release
seen_of Event.Established = bare 6  -- MM connection established
seen_of Event.EstablishmentFailed = bare 7  -- MM establishment failed
seen_of Event.LinkFailure = bare 8  -- radio link failure
seen_of Event.AbortDetected = bare 9  -- abort or release detected
seen_of (Event.Notified value reference) = carrying 10 value reference  -- broadcast notified
seen_of Event.ReceiveModeEntered = bare 11  -- group receive mode entered
seen_of Event.NoChannel = bare 12  -- no channel
seen_of Event.ChannelAvailable = bare 13  -- channel available
seen_of Event.MmEstExpired = bare 14  -- expiry of T_MM-est
seen_of Event.TermExpired = bare 15  -- expiry of T_term
seen_of Event.ConnReqExpired = bare 16  -- expiry of T_conn req
seen_of Event.NoChannelExpired = bare 17  -- expiry of T_no channel
seen_of (Event.Received mode value message) = seen_message value message  -- message received
seen_of Event.PresExpired = bare 19  -- expiry of T_pres
seen_of Event.ReceiveModeRequested = bare 32  -- request receive mode: stop talking
seen_of Event.TalkRequested = bare 33  -- request talk: the uplink
seen_of Event.TransmitModeEntered = bare 34  -- group transmit mode entered
seen_of Event.DedicatedModeEntered = bare 35  -- dedicated mode entered
seen_of Event.TerminationDeleted = bare 36  -- delete the pending termination request
