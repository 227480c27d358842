-- A small table with three timers, tried: an entry is three octets (milliseconds, event, claimed state).
-- States 0 (no timer), 1 (timer 1, of 10 to 30 milliseconds), 2 (timer 2, of 3 to 9), 3 (timer 3, of 5). Event 1 goes from 0 to 1, event 2 from 1 to 2, event 5 from 0
-- to 3; events 3, 4 and 6 are the expiries of timers 1, 2 and 3 and go to 0; every other pair stays.
use mathlib.Core.Path.{◌≡◌, refl, sym}
use mathlib.Core.Bool.{Bool, true, cond, ◌&&◌}
use mathlib.Core.List.{List, [], ◌∷◌}
use Prim.Native.Nat.{ℕ, ◌+◌}
use native.Mathlib.Omega.{arith}
use lib.Dec.{eqb}
use lib.ListN.{length, drop}
use lib.Seq.{drop-append_seam}
use Rattle.octets.proofs.Choice.{never}
use borrow.Author.Tests.{eqb-true, eq-eqb}
use Rattle.judge_laws.specs.Steps.{Steps, StepLaws}
use Rattle.judge_laws.specs.Log.{Entry, begin}
use Rattle.judge_laws.specs.Timers.{Interval, Within}
use Rattle.judge_laws.specs.Verdict.{Verdict, accepted, unreadable, unexplained}
use Rattle.judge_laws.specs.Judge.{narrow, turn, judge_from, judge}
use Rattle.judge_laws.specs.Reading.{Read, found, broken, Further, Reader, entries_in, entries, Writer, written, AllFine}
use Rattle.judge_laws.specs.TwoTimers.{Unknowns, lengths_with, BothInRange, Tells, judge_two}
use Rattle.judge_laws.specs.Recorded.{Move, recorded, MadeInTime}
use Rattle.judge_laws.proofs.TwoTimers.{judge_two_tells, recorded_two_accepted}

abbrev state_after : ℕ → ℕ → ℕ
state_after state event =
    cond (eqb state 0 && eqb event 1) 1
    (cond (eqb state 1 && eqb event 2) 2
    (cond (eqb state 1 && eqb event 3) 0
    (cond (eqb state 2 && eqb event 4) 0
    (cond (eqb state 0 && eqb event 5) 3
    (cond (eqb state 3 && eqb event 6) 0 state)))))

abbrev small : Steps
small = record {
  Context = ℕ;
  Event = ℕ;
  Claim = ℕ;
  cleared = 0;
  after = state_after;
  claims = state_after;
  agree = eqb;
  runs = λ state. state;
  expires = λ event. cond (eqb event 3) 1 (cond (eqb event 4) 2 (cond (eqb event 6) 3 0));
}

small_laws : StepLaws small
small_laws = record { agree-true = eqb-true; agree_same = λ a. eq-eqb a a refl }

abbrev three : List ℕ → ℕ → Read (Entry small)
three [] at = broken
three (d ∷ []) at = broken
three (d ∷ v ∷ []) at = broken
three (d ∷ v ∷ c ∷ rest) at = found (record { delta = d; event = v; claim = c }) (at + 3)

three-further : (w : List ℕ) (at : ℕ) → Further at (three w at)
three-further [] at = tt
three-further (d ∷ []) at = tt
three-further (d ∷ v ∷ []) at = tt
three-further (d ∷ v ∷ c ∷ rest) at = omega arith

abbrev reader : Reader (Entry small)
reader = record { read_at = λ s at. three (drop at s) at; further = λ s at. three-further (drop at s) at }

abbrev writer : Writer reader
writer = record {
  octets = λ e. e.delta ∷ e.event ∷ e.claim ∷ [];
  Fine = λ e. Unit;
  reads = λ e f front rest. rw (drop-append_seam front (e.delta ∷ e.event ∷ e.claim ∷ rest));
}

-- ---- two unknown timers

abbrev unknowns : Unknowns
unknowns = record { first = record { timer = 1; low = 10; high = 30 }; second = record { timer = 2; low = 3; high = 9 }; known = λ k. 5 }

abbrev verdict : List ℕ → Verdict (Interval × Interval)
verdict s = judge_two small unknowns (entries reader s 0)

abbrev between : (n low high least greatest : ℕ) → Verdict (Interval × Interval)
between n low high least greatest = accepted n (record { least = low; greatest = high }, record { least = least; greatest = greatest })

abbrev cases : List (List ℕ × Verdict (Interval × Interval))
cases =
    -- nothing; a torn entry; the expiry of a timer that isn't running, at any time
    ([], between 0 10 30 3 9) ∷
    (0 ∷ 1 ∷ [], unreadable 1) ∷
    (200 ∷ 3 ∷ 0 ∷ [], between 1 10 30 3 9) ∷
    -- one visit: the expiry tells the length, another event a least length
    (0 ∷ 1 ∷ 1 ∷ 12 ∷ 3 ∷ 0 ∷ [], between 2 12 12 3 9) ∷
    (0 ∷ 1 ∷ 1 ∷ 20 ∷ 2 ∷ 2 ∷ [], between 2 20 30 3 9) ∷
    (0 ∷ 1 ∷ 1 ∷ 30 ∷ 2 ∷ 2 ∷ [], between 2 30 30 3 9) ∷
    (0 ∷ 1 ∷ 1 ∷ 31 ∷ 2 ∷ 2 ∷ [], unexplained 2) ∷
    (0 ∷ 1 ∷ 1 ∷ 9 ∷ 3 ∷ 0 ∷ [], unexplained 2) ∷
    -- an event with no step does not start the timer anew, and keeps the rules of time
    (0 ∷ 1 ∷ 1 ∷ 15 ∷ 1 ∷ 1 ∷ 15 ∷ 3 ∷ 0 ∷ [], between 3 30 30 3 9) ∷
    (0 ∷ 1 ∷ 1 ∷ 15 ∷ 1 ∷ 1 ∷ 16 ∷ 1 ∷ 1 ∷ [], unexplained 3) ∷
    -- two visits: two lengths are refused, one length explains both
    (0 ∷ 1 ∷ 1 ∷ 12 ∷ 3 ∷ 0 ∷ 5 ∷ 1 ∷ 1 ∷ 13 ∷ 2 ∷ 2 ∷ [], unexplained 4) ∷
    (0 ∷ 1 ∷ 1 ∷ 12 ∷ 3 ∷ 0 ∷ 5 ∷ 1 ∷ 1 ∷ 12 ∷ 2 ∷ 2 ∷ [], between 4 12 12 3 9) ∷
    -- from the state of timer 1 to the state of timer 2: timer 2 starts there; a timer that still runs at the end asks nothing
    (0 ∷ 1 ∷ 1 ∷ 20 ∷ 2 ∷ 2 ∷ 5 ∷ 4 ∷ 0 ∷ [], between 3 20 30 5 5) ∷
    (0 ∷ 1 ∷ 1 ∷ 20 ∷ 2 ∷ 2 ∷ 2 ∷ 4 ∷ 0 ∷ [], unexplained 3) ∷
    (0 ∷ 1 ∷ 1 ∷ 20 ∷ 2 ∷ 2 ∷ 5 ∷ 1 ∷ 2 ∷ [], between 3 20 30 5 9) ∷
    (0 ∷ 1 ∷ 1 ∷ 20 ∷ 2 ∷ 2 ∷ 10 ∷ 1 ∷ 2 ∷ [], unexplained 3) ∷
    -- one pair alone explains both visits; the second is refused if timer 2 expires a millisecond early there
    (0 ∷ 1 ∷ 1 ∷ 12 ∷ 3 ∷ 0 ∷ 0 ∷ 1 ∷ 1 ∷ 11 ∷ 2 ∷ 2 ∷ 5 ∷ 4 ∷ 0 ∷ [], between 5 12 12 5 5) ∷
    (0 ∷ 1 ∷ 1 ∷ 0 ∷ 2 ∷ 2 ∷ 5 ∷ 4 ∷ 0 ∷ 0 ∷ 1 ∷ 1 ∷ 0 ∷ 2 ∷ 2 ∷ 4 ∷ 4 ∷ 0 ∷ [], unexplained 6) ∷
    -- a timer whose length is known
    (0 ∷ 5 ∷ 3 ∷ 5 ∷ 6 ∷ 0 ∷ [], between 2 10 30 3 9) ∷
    (0 ∷ 5 ∷ 3 ∷ 4 ∷ 6 ∷ 0 ∷ [], unexplained 2) ∷
    (0 ∷ 5 ∷ 3 ∷ 6 ∷ 1 ∷ 3 ∷ [], unexplained 2) ∷
    -- a claim that the step does not give; what stands behind an unexplained entry isn't looked at
    (0 ∷ 1 ∷ 2 ∷ [], unexplained 1) ∷
    (0 ∷ 1 ∷ 2 ∷ 0 ∷ [], unexplained 1) ∷
    (0 ∷ 1 ∷ 1 ∷ 0 ∷ [], unreadable 2) ∷ []

abbrev Hold : List (List ℕ × Verdict (Interval × Interval)) → Type 0
Hold [] = Unit
Hold (c ∷ cs) = (verdict c.0 ≡ c.1) × Hold cs

all_hold : Hold cases
unfolding judge_two judge judge_from turn narrow entries entries_in
all_hold =
    (refl, (refl, (refl, (refl, (refl, (refl, (refl, (refl, (refl, (refl, (refl, (refl, (refl, (refl, (refl, (refl, (refl, (refl, (refl, (refl, (refl, (refl, (refl, (refl, tt))))))))))))))))))))))))

-- What the laws say of this table: the verdict on any octets, and the log of any steps that were made in time.
small_tells : (s : List ℕ) → Tells small unknowns (entries reader s 0) (verdict s)
small_tells s = judge_two_tells small unknowns small_laws (omega arith, omega arith) (entries reader s 0)

abbrev every : ℕ → ℕ → Bool
every state event = true

small-recorded : (t u : ℕ) → BothInRange unknowns t u → (ms : List (Move small)) → MadeInTime small every (lengths_with unknowns t u) ms (begin small) 0
    → AllFine writer (recorded small every ms 0 0)
    → (i j : Interval) × (verdict (written writer (recorded small every ms 0 0)) ≡ accepted (length (recorded small every ms 0 0)) (i, j)) × Within t i × Within u j
small-recorded t u r ms h f = recorded_two_accepted small unknowns small_laws writer every (λ state event q. never (sym q)) t u r ms h f [] _ refl
