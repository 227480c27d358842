-- Document 01, "The context": the table of timers, a row a timer. (Its last column, where a timer runs, is part of what a fit context is.)
use Rattle.std.specs.Prelude.{ℕ, ◌+◌, Bool, false, cond, ◌&&◌, List, [], ◌∷◌, eqb, Option, Some, None}
use Rattle.octets.specs.Rows.{rows}
use Rattle.timer.specs.declared.Timer.{Timer}
use Rattle.timer.specs.declared.Timer.TheVariants.{MmEst, Term, ConnReq, NoChannel, Pres}
use Rattle.timer.specs.declared.Timers.{Timers}

-- What a row says of its timer: its number, its milliseconds, and the event that is its expiry.
pub record Row : Type 0 where
  pub number : ℕ
  pub milliseconds : ℕ
  pub expiry : ℕ

abbrev pub row : ℕ → ℕ → ℕ → Row
row number milliseconds expiry = record { number = number; milliseconds = milliseconds; expiry = expiry }

-- The table, where the joining timer is set to `joining` and the invitation timer to `invitation`.
abbrev pub timer_row : (joining invitation : ℕ) → Timer → Row
timer_row joining invitation MmEst = row 1 5000 14  -- T_MM-est
timer_row joining invitation Term = row 2 10000 15  -- T_term
timer_row joining invitation ConnReq = row 3 joining 16  -- T_conn req, the joining timer
timer_row joining invitation NoChannel = row 4 3000 17  -- T_no channel
timer_row joining invitation Pres = row 5 invitation 19  -- T_pres, the invitation timer: "The expiry is event 19"

-- "one setting, 10,000 to 30,000": the joining timer's range.
abbrev pub least_joining : ℕ
least_joining = 10000

abbrev pub greatest_joining : ℕ
greatest_joining = 30000

-- "a fifth setting, 1,000 to 600,000 ms": the invitation timer's range.
abbrev pub least_invitation : ℕ
least_invitation = 1000

abbrev pub greatest_invitation : ℕ
greatest_invitation = 600000

-- The timers there are.
abbrev pub all_timers : List Timer
all_timers = MmEst ∷ Term ∷ ConnReq ∷ NoChannel ∷ Pres ∷ []

-- What holds of each timer.
abbrev pub of_each : (Timer → Bool) → Bool
of_each P = P MmEst && (P Term && (P ConnReq && (P NoChannel && P Pres)))

-- The number of a timer; and of one that may be none, 0 for none.
abbrev pub timer_number : Timer → ℕ
timer_number k = (timer_row 0 0 k).number

abbrev pub number_of_any : Option Timer → ℕ
number_of_any None = 0
number_of_any (Some k) = timer_number k

-- The same timer.
abbrev pub same_timer : Timer → Timer → Bool
same_timer a b = eqb (timer_number a) (timer_number b)

-- Two columns of the table beside one another.
abbrev pub columns : {A : Type 0} → (Timer → ℕ × A) → List Timer → List (ℕ × A)
columns of [] = []
columns of (k ∷ more) = of k ∷ columns of more

-- The timer that an event expires, if any; and its number, 0 for none.
abbrev pub expiries : List (ℕ × Option Timer)
expiries = columns (λ k. ((timer_row 0 0 k).expiry, Some k)) all_timers

unfoldable pub expired_timer : ℕ → Option Timer
expired_timer event = rows event None expiries

unfoldable pub expiry_of : ℕ → ℕ
expiry_of event = number_of_any (rows event None expiries)

-- The milliseconds of the timer of a number, 0 for none.
abbrev pub lengths : (joining invitation : ℕ) → List (ℕ × ℕ)
lengths joining invitation = columns (λ k. (timer_number k, (timer_row joining invitation k).milliseconds)) all_timers

unfoldable pub length_of : (joining invitation timer : ℕ) → ℕ
length_of joining invitation timer = rows timer 0 (lengths joining invitation)

-- Whether a timer is among those that run; and whether one that may be none is.
abbrev pub is_on : Timer → Timers → Bool
is_on MmEst t = t.mmest
is_on Term t = t.term
is_on ConnReq t = t.connreq
is_on NoChannel t = t.nochannel
is_on Pres t = t.pres

abbrev pub any_on : Option Timer → Timers → Bool
any_on None t = false
any_on (Some k) t = is_on k t

-- The first that runs, if one does; and its number, 0 where none does.
abbrev pub first_on : Timers → List Timer → Option Timer
first_on t [] = None
first_on t (k ∷ more) = cond (is_on k t) (Some k) (first_on t more)

unfoldable pub running_timer : Timers → Option Timer
running_timer t = first_on t all_timers

unfoldable pub running_among : Timers → ℕ
running_among t = number_of_any (first_on t all_timers)

-- How many run.
abbrev pub count_on : Timers → List Timer → ℕ
count_on t [] = 0
count_on t (k ∷ more) = cond (is_on k t) 1 0 + count_on t more

abbrev pub how_many : Timers → ℕ
how_many t = count_on t all_timers

-- The timers with one of them, if any, running or not.
unfoldable pub with_timer : Option Timer → Bool → Timers → Timers
with_timer None runs t = t
with_timer (Some MmEst) runs t = record { mmest = runs; term = t.term; connreq = t.connreq; nochannel = t.nochannel; pres = t.pres }
with_timer (Some Term) runs t = record { mmest = t.mmest; term = runs; connreq = t.connreq; nochannel = t.nochannel; pres = t.pres }
with_timer (Some ConnReq) runs t = record { mmest = t.mmest; term = t.term; connreq = runs; nochannel = t.nochannel; pres = t.pres }
with_timer (Some NoChannel) runs t = record { mmest = t.mmest; term = t.term; connreq = t.connreq; nochannel = runs; pres = t.pres }
with_timer (Some Pres) runs t = record { mmest = t.mmest; term = t.term; connreq = t.connreq; nochannel = t.nochannel; pres = runs }

-- No timer runs.
abbrev pub no_timers : Timers
no_timers = record { mmest = false; term = false; connreq = false; nochannel = false; pres = false }

-- The timers of which the one of this number alone runs.
unfoldable pub alone : ℕ → Timers
alone n =
    record {
      mmest = eqb n (timer_number MmEst);
      term = eqb n (timer_number Term);
      connreq = eqb n (timer_number ConnReq);
      nochannel = eqb n (timer_number NoChannel);
      pres = eqb n (timer_number Pres);
    }
