-- The promise is sharp: no smaller number could stand in it, and none of its conditions could be left out. Each law takes a stronger statement of all accepted broadcast
-- logs and draws from a worked log (proofs/Cases) what it would have to grant.
use Prim.Native.Nat.{ℕ, ◌+◌, ◌≤◌}
use mathlib.Core.Path.{◌≡◌, refl}
use mathlib.Core.Bool.{true}
use Rattle.std.specs.Prelude.{Some}
use mathlib.Core.List.{List, ◌∷◌, ◌++◌}
use native.Mathlib.Omega.{arith}
use lib.Dec.{leb}
use lib.ListN.{length}
use borrow.Author.Tests.{leb-true}
use Rattle.codes.specs.declared.state.State.TheVariants.{U0p, U3, U4, U5, U6}
use Rattle.step_arguments.specs.Arguments.{settings_out}
use Rattle.septets.specs.Number.{joined, groups_at, number_at}
use Rattle.timer.specs.declared.Window.{Window}
use Rattle.version.specs.declared.Table.{Table}
use Rattle.version.specs.declared.Table.TheVariants.{First, Second, Third}
use Rattle.version.specs.Version.{table_of, longest, protocol_of}
use Rattle.verdict.specs.declared.Invitation.TheVariants.{Untold, Told}
use Rattle.verdict.specs.Demand.{Begins}
use Rattle.waiting.specs.Visits.{Noted, Visit, NoChannel}
use Rattle.waiting.specs.Waiting.{AtMost, InAnyAccepted}
use Rattle.waiting.proofs.Cases.{
  own,
  identity,
  ms1000,
  ms5000,
  ms10000,
  ms12000,
  ms60000,
  hour,
  calling,
  joining,
  losing,
  asking,
  invited,
  refusing,
  hearing_on,
  losing_again,
  inviting,
  between,
  any_joining,
  answers,
  waits,
}

-- A log of one's own that begins with a version of one octet.
begins_as : (number : ℕ) (table : Table) (s : List ℕ) → number_at s 0 ≡ Some (number, 1) → table_of number ≡ Some table → leb (length s) longest ≡ true → Begins own identity s
unfolding settings_out
begins_as number table s version known short = record {
  tested = record { short = leb-true _ _ short; settings = refl };
  number = number;
  place = 1;
  version = version;
  table = table;
  known = known;
}

-- Of U0.p: 5,000 ms.
pub u0p_sharp : (limit : ℕ) → InAnyAccepted (λ version joining invitation log. AtMost limit U0p log) → 5000 ≤ limit
unfolding number_at groups_at joined table_of protocol_of begins_as
u0p_sharp limit all =
    let w : waits.u0p.0.next.time ≤ waits.u0p.0.enters.time + limit
    = all own identity (calling ms5000) 2 any_joining Untold answers.u0p (begins_as 1 First (calling ms5000) refl refl refl) refl waits.u0p.0 in
    omega (arith, w, waits.u0p.1)

-- Of U4: the least timer reported, and not a millisecond earlier.
pub u4_sharp : (earlier : ℕ) → InAnyAccepted (λ version joining invitation log. (visit : Visit U4 log) → visit.next.time + earlier ≤ visit.enters.time + joining.least) → earlier ≡ 0
unfolding number_at groups_at joined table_of protocol_of begins_as
u4_sharp earlier all =
    let w : waits.u4.0.next.time + earlier ≤ waits.u4.0.enters.time + 12000
    = all own identity (joining ms12000) 6 (between 12000 12000) Untold answers.u4 (begins_as 1 First (joining ms12000) refl refl refl) refl waits.u4.0 in
    omega (arith, w, waits.u4.1)

-- Of U6: 3,000 ms after a "no channel",
pub u6_sharp : (limit : ℕ)
    → InAnyAccepted (λ version joining invitation log. (visit : Visit U6 log) (channel : NoChannel visit) → visit.next.time ≤ channel.lost.time + limit) → 3000 ≤ limit
unfolding number_at groups_at joined table_of protocol_of begins_as
u6_sharp limit all =
    let w : waits.u6.visit.next.time ≤ waits.u6.channel.lost.time + limit
    = all own identity (losing ms1000) 6 any_joining Untold answers.u6 (begins_as 1 First (losing ms1000) refl refl refl) refl waits.u6.visit waits.u6.channel in
    omega (arith, w, waits.u6.lacks)

-- and not after entering it: that may be an hour.
pub u6_not_from_entering : (limit : ℕ)
    → InAnyAccepted (λ version joining invitation log. (visit : Visit U6 log) (channel : NoChannel visit) → visit.next.time ≤ visit.enters.time + limit) → 3600000 ≤ limit
unfolding number_at groups_at joined table_of protocol_of begins_as
u6_not_from_entering limit all =
    let w : waits.u6_late.visit.next.time ≤ waits.u6_late.visit.enters.time + limit
    = all own identity (hearing_on hour) 5 any_joining Untold answers.u6_heard (begins_as 1 First (hearing_on hour) refl refl refl) refl waits.u6_late.visit waits.u6_late.channel in
    omega (arith, w, waits.u6_late.lasts)

-- Nor after one that a "channel available" followed: behind that it may be an hour too.
pub u6_not-once-available : (limit : ℕ)
    → InAnyAccepted (λ version joining invitation log. (visit : Visit U6 log) (earlier : List Noted) (lost : Noted) (later : List Noted)
    → visit.enters ∷ visit.stays ≡ earlier ++ (lost ∷ later) → lost.event ≡ 12 → visit.next.time ≤ lost.time + limit) → 3600000 ≤ limit
unfolding number_at groups_at joined table_of protocol_of begins_as
u6_not-once-available limit all =
    let c = waits.u6_again in
    let w : c.visit.next.time ≤ c.lost.time + limit
    = all own identity (losing_again hour) 6 any_joining Untold answers.u6_again (begins_as 1 First (losing_again hour) refl refl refl) refl c.visit c.earlier c.lost c.later c.split c.no_channel in
    omega (arith, w, c.lacks)

-- Of U5: 10,000 ms for version 2 and later,
pub u5_sharp : (limit : ℕ) → InAnyAccepted (λ version joining invitation log. 2 ≤ version → AtMost limit U5 log) → 10000 ≤ limit
unfolding number_at groups_at joined table_of protocol_of begins_as
u5_sharp limit all =
    let w : waits.u5.0.next.time ≤ waits.u5.0.enters.time + limit
    = all own identity (asking 2 ms10000) 4 any_joining Untold answers.u5 (begins_as 2 Second (asking 2 ms10000) refl refl refl) refl (omega arith) waits.u5.0 in
    omega (arith, w, waits.u5.1)

-- and for version 1 that may be an hour.
pub u5_not-by-version_1 : (limit : ℕ) → InAnyAccepted (λ version joining invitation log. 1 ≤ version → AtMost limit U5 log) → 3600000 ≤ limit
unfolding number_at groups_at joined table_of protocol_of begins_as
u5_not-by-version_1 limit all =
    let w : waits.u5_first.0.next.time ≤ waits.u5_first.0.enters.time + limit
    = all own identity (refusing hour) 5 any_joining Untold answers.u5_first (begins_as 1 First (refusing hour) refl refl refl) refl (omega arith) waits.u5_first.0 in
    omega (arith, w, waits.u5_first.1)

-- Of U3: the least invitation timer reported, and not a millisecond earlier.
pub u3_sharp : (earlier : ℕ)
    → InAnyAccepted (λ version joining invitation log. (reported : Window) → invitation ≡ Told reported → (visit : Visit U3 log) → visit.next.time + earlier ≤ visit.enters.time + reported.least)
    → earlier ≡ 0
unfolding number_at groups_at joined table_of protocol_of begins_as
u3_sharp earlier all =
    let w : waits.u3.0.next.time + earlier ≤ waits.u3.0.enters.time + 60000
    = all own identity (invited ms60000) 4 any_joining (Told (between 60000 60000)) answers.u3 (begins_as 3 Third (invited ms60000) refl refl refl) refl (between 60000 60000) refl waits.u3.0 in
    omega (arith, w, waits.u3.1)

-- For version 2, which reports none, it may be an hour.
pub u3_not-by-version_2 : (limit : ℕ) → InAnyAccepted (λ version joining invitation log. 2 ≤ version → AtMost limit U3 log) → 3600000 ≤ limit
unfolding number_at groups_at joined table_of protocol_of begins_as
u3_not-by-version_2 limit all =
    let w : waits.u3_second.0.next.time ≤ waits.u3_second.0.enters.time + limit
    = all own identity (inviting hour) 2 any_joining Untold answers.u3_second (begins_as 2 Second (inviting hour) refl refl refl) refl (omega arith) waits.u3_second.0 in
    omega (arith, w, waits.u3_second.1)
