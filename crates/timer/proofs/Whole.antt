-- A test that is computed over all timers, and the rule that it gives at one setting of them.
use mathlib.Core.Path.{◌≡◌, refl}
use mathlib.Core.Bool.{Bool, true, false, not, ◌&&◌, ◌||◌}
use Rattle.octets.proofs.Choice.{never}
use Rattle.timer.specs.declared.Timers.{Timers}

pub and_left : (a b : Bool) → (a && b) ≡ true → a ≡ true
and_left true b e = refl
and_left false b e = e

pub and_right : (a b : Bool) → (a && b) ≡ true → b ≡ true
and_right true b e = e
and_right false b e = never e

pub and_both : (a b : Bool) → a ≡ true → b ≡ true → (a && b) ≡ true
and_both true b e f = f
and_both false b e f = e

-- A test that asks the second if the first holds.
pub if_so : (a b : Bool) → (not a || b) ≡ true → a ≡ true → b ≡ true
if_so true b e h = e
if_so false b e h = never h

-- The test holds of both.
abbrev pub either : (Bool → Bool) → Bool
either P = P true && P false

pub at_bool : (P : Bool → Bool) → either P ≡ true → (b : Bool) → P b ≡ true
at_bool P e true = and_left (P true) _ e
at_bool P e false = and_right (P true) _ e

abbrev timers : Bool → Bool → Bool → Bool → Bool → Timers
timers a b c d e = record { mmest = a; term = b; connreq = c; nochannel = d; pres = e }

-- The test holds of all timers.
abbrev pub of_timers : (Timers → Bool) → Bool
of_timers P = either (λ a. either (λ b. either (λ c. either (λ d. either (λ e. P (timers a b c d e))))))

pub at_timers : (P : Timers → Bool) → of_timers P ≡ true → (t : Timers) → P t ≡ true
at_timers P all t =
    at_bool (λ e. P (timers t.mmest t.term t.connreq t.nochannel e))
    (at_bool (λ d. either (λ e. P (timers t.mmest t.term t.connreq d e)))
    (at_bool (λ c. either (λ d. either (λ e. P (timers t.mmest t.term c d e))))
    (at_bool (λ b. either (λ c. either (λ d. either (λ e. P (timers t.mmest b c d e)))))
    (at_bool (λ a. either (λ b. either (λ c. either (λ d. either (λ e. P (timers a b c d e)))))) all t.mmest) t.term) t.connreq) t.nochannel) t.pres
