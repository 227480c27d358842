-- Any two outcomes that a public contract of this crate allows coincide.
use Prim.Native.Nat.{ℕ}
use mathlib.Core.Path.{◌≡◌}
use mathlib.Core.Bool.{Bool}
use Rattle.std.specs.Prelude.{Option}
use Rattle.octets.proofs.Coincide.{coincide}
use Rattle.timer.specs.declared.Timer.{Timer}
use Rattle.timer.specs.declared.Timers.{Timers}
use Rattle.timer.specs.Timers.{number_of_any, timer_row, running_timer, expired_timer, length_of, with_timer}

pub timer-number_coincides : (k : Option Timer) (a b : ℕ) → a ≡ number_of_any k → b ≡ number_of_any k → a ≡ b
timer-number_coincides k a b = coincide (number_of_any k) a b

pub running-timer_coincides : (t : Timers) (a b : Option Timer) → a ≡ running_timer t → b ≡ running_timer t → a ≡ b
running-timer_coincides t a b = coincide (running_timer t) a b

pub expired_timer_coincides : (event : ℕ) (a b : Option Timer) → a ≡ expired_timer event → b ≡ expired_timer event → a ≡ b
expired_timer_coincides event a b = coincide (expired_timer event) a b

pub timer-length_coincides : (joining invitation timer a b : ℕ) → a ≡ length_of joining invitation timer → b ≡ length_of joining invitation timer → a ≡ b
timer-length_coincides joining invitation timer a b = coincide (length_of joining invitation timer) a b

pub milliseconds_coincides : (joining invitation : ℕ) (timer : Timer) (a b : ℕ) → a ≡ (timer_row joining invitation timer).milliseconds → b ≡ (timer_row joining invitation timer).milliseconds → a ≡ b
milliseconds_coincides joining invitation timer a b = coincide (timer_row joining invitation timer).milliseconds a b

pub with_timer_coincides : (k : Option Timer) (runs : Bool) (t a b : Timers) → a ≡ with_timer k runs t → b ≡ with_timer k runs t → a ≡ b
with_timer_coincides k runs t a b = coincide (with_timer k runs t) a b
