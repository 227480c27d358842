-- "Nobody waits longer than the timers say." What is promised of every accepted broadcast log, in the request's words. Time is the time of recorded entries.
use Rattle.std.specs.Prelude.{ℕ, ◌+◌, ◌≤◌, ◌≡◌, List}
use Rattle.codes.specs.declared.state.State.{State}
use Rattle.codes.specs.declared.state.State.TheVariants.{U0p, U3, U4, U5, U6}
use Rattle.codes.specs.declared.protocol.Protocol.TheVariants.{Broadcast}
use Rattle.timer.specs.declared.Window.{Window}
use Rattle.message.specs.declared.Own.{Own}
use Rattle.version.specs.Version.{protocol_of}
use Rattle.verdict.specs.declared.Invitation.{Invitation}
use Rattle.verdict.specs.declared.Invitation.TheVariants.{Told}
use Rattle.verdict.specs.declared.Judged.TheVariants.{Accepted}
use Rattle.verdict.specs.Judge.{judge_of}
use Rattle.verdict.specs.Demand.{Begins, behind}
use Rattle.waiting.specs.Visits.{Noted, noted_from, Visit, NoChannel}

-- The radio is never in a state more than so many milliseconds after entering it.
abbrev pub AtMost : ℕ → State → List Noted → Type 0
AtMost limit state log = (visit : Visit state log) → visit.next.time ≤ visit.enters.time + limit

-- "the radio is never in U0.p more than 5,000 ms after entering it"
abbrev pub InU0p : List Noted → Type 0
InU0p log = AtMost 5000 U0p log

-- "nor in U4 longer than the least timer reported"
abbrev pub InU4 : (joining : ℕ) → List Noted → Type 0
InU4 joining log = AtMost joining U4 log

-- "nor in U6 more than 3,000 ms after a "no channel" of the same visit that no "channel available" followed"
abbrev pub InU6 : List Noted → Type 0
InU6 log = (visit : Visit U6 log) (channel : NoChannel visit) → visit.next.time ≤ channel.lost.time + 3000

-- "For version 2 logs and later, it is in U5 at most 10,000 ms."
abbrev pub InU5 : (version : ℕ) → List Noted → Type 0
InU5 version log = 2 ≤ version → AtMost 10000 U5 log

-- And in U3, where an invitation timer is reported, which is for version 3, no longer than the least that is.
abbrev pub InU3 : Invitation → List Noted → Type 0
InU3 invitation log = (reported : Window) → invitation ≡ Told reported → AtMost reported.least U3 log

pub record NobodyWaits (version : ℕ) (joining : Window) (invitation : Invitation) (log : List Noted) : Type 0 where
  pub in_u0p : InU0p log
  pub in_u4 : InU4 joining.least log
  pub in_u6 : InU6 log
  pub in_u5 : InU5 version log
  pub in_u3 : InU3 invitation log

-- "In any accepted broadcast log": of the version, the timers reported, and the entries. The judge's verdict on the log's bytes reports the timers; its first number, the
-- version, says that it is of a broadcast call.
abbrev pub InAnyAccepted : (ℕ → Window → Invitation → List Noted → Type 0) → Type 0
InAnyAccepted Keeps =
    (own : Own) (identity s : List ℕ) (n : ℕ) (joining : Window) (invitation : Invitation) → judge_of own identity s ≡ Accepted n joining invitation
    → (begins : Begins own identity s) → protocol_of begins.table ≡ Broadcast
    → Keeps begins.number joining invitation (noted_from begins.table own identity 0 (behind own identity s begins))

abbrev pub Promise : Type 0
Promise = InAnyAccepted NobodyWaits
