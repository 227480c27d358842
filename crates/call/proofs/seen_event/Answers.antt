-- `seen_event` meets its contract, event by event.
use Rattle.call.specs.Events.{seen_of}
use Rattle.call.proofs.seen_event.Goals as goal

pub returns-in-SetUp : goal.returns-in-SetUp
unfolding seen_of
returns-in-SetUp c = rw (c.carrying.ensures, c.in-SetUp.is)

pub returns-in-ImmediateSetUp : goal.returns-in-ImmediateSetUp
unfolding seen_of
returns-in-ImmediateSetUp c = rw (c.carrying-in-ImmediateSetUp.ensures, c.in-ImmediateSetUp.is)

pub returns-in-Join : goal.returns-in-Join
unfolding seen_of
returns-in-Join c = rw (c.bare.ensures, c.in-Join.is)

pub returns-in-Terminate : goal.returns-in-Terminate
unfolding seen_of
returns-in-Terminate c = rw (c.bare-in-Terminate.ensures, c.in-Terminate.is)

pub returns-in-Release : goal.returns-in-Release
unfolding seen_of
returns-in-Release c = rw (c.bare-in-Release.ensures, c.in-Release.is)

pub returns-in-Established : goal.returns-in-Established
unfolding seen_of
returns-in-Established c = rw (c.bare-in-Established.ensures, c.in-Established.is)

pub returns-in-EstablishmentFailed : goal.returns-in-EstablishmentFailed
unfolding seen_of
returns-in-EstablishmentFailed c = rw (c.bare-in-EstablishmentFailed.ensures, c.in-EstablishmentFailed.is)

pub returns-in-LinkFailure : goal.returns-in-LinkFailure
unfolding seen_of
returns-in-LinkFailure c = rw (c.bare-in-LinkFailure.ensures, c.in-LinkFailure.is)

pub returns-in-AbortDetected : goal.returns-in-AbortDetected
unfolding seen_of
returns-in-AbortDetected c = rw (c.bare-in-AbortDetected.ensures, c.in-AbortDetected.is)

pub returns-in-Notified : goal.returns-in-Notified
unfolding seen_of
returns-in-Notified c = rw (c.carrying-in-Notified.ensures, c.in-Notified.is)

pub returns-in-ReceiveModeEntered : goal.returns-in-ReceiveModeEntered
unfolding seen_of
returns-in-ReceiveModeEntered c = rw (c.bare-in-ReceiveModeEntered.ensures, c.in-ReceiveModeEntered.is)

pub returns-in-NoChannel : goal.returns-in-NoChannel
unfolding seen_of
returns-in-NoChannel c = rw (c.bare-in-NoChannel.ensures, c.in-NoChannel.is)

pub returns-in-ChannelAvailable : goal.returns-in-ChannelAvailable
unfolding seen_of
returns-in-ChannelAvailable c = rw (c.bare-in-ChannelAvailable.ensures, c.in-ChannelAvailable.is)

pub returns-in-MmEstExpired : goal.returns-in-MmEstExpired
unfolding seen_of
returns-in-MmEstExpired c = rw (c.bare-in-MmEstExpired.ensures, c.in-MmEstExpired.is)

pub returns-in-TermExpired : goal.returns-in-TermExpired
unfolding seen_of
returns-in-TermExpired c = rw (c.bare-in-TermExpired.ensures, c.in-TermExpired.is)

pub returns-in-ConnReqExpired : goal.returns-in-ConnReqExpired
unfolding seen_of
returns-in-ConnReqExpired c = rw (c.bare-in-ConnReqExpired.ensures, c.in-ConnReqExpired.is)

pub returns-in-NoChannelExpired : goal.returns-in-NoChannelExpired
unfolding seen_of
returns-in-NoChannelExpired c = rw (c.bare-in-NoChannelExpired.ensures, c.in-NoChannelExpired.is)

pub returns-in-Received : goal.returns-in-Received
unfolding seen_of
returns-in-Received c = rw (c.seen_message.ensures, c.in-Received.is)

pub returns-in-PresExpired : goal.returns-in-PresExpired
unfolding seen_of
returns-in-PresExpired c = rw (c.bare-in-PresExpired.ensures, c.in-PresExpired.is)

pub returns-in-ReceiveModeRequested : goal.returns-in-ReceiveModeRequested
unfolding seen_of
returns-in-ReceiveModeRequested c = rw (c.bare-in-ReceiveModeRequested.ensures, c.in-ReceiveModeRequested.is)

pub returns-in-TalkRequested : goal.returns-in-TalkRequested
unfolding seen_of
returns-in-TalkRequested c = rw (c.bare-in-TalkRequested.ensures, c.in-TalkRequested.is)

pub returns-in-TransmitModeEntered : goal.returns-in-TransmitModeEntered
unfolding seen_of
returns-in-TransmitModeEntered c = rw (c.bare-in-TransmitModeEntered.ensures, c.in-TransmitModeEntered.is)

pub returns-in-DedicatedModeEntered : goal.returns-in-DedicatedModeEntered
unfolding seen_of
returns-in-DedicatedModeEntered c = rw (c.bare-in-DedicatedModeEntered.ensures, c.in-DedicatedModeEntered.is)

pub returns-in-TerminationDeleted : goal.returns-in-TerminationDeleted
unfolding seen_of
returns-in-TerminationDeleted c = rw (c.bare-in-TerminationDeleted.ensures, c.in-TerminationDeleted.is)
