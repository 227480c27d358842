-- The public function's contract determines its answer: any two outcomes that it allows coincide.
use Prim.Native.Nat.{ℕ}
use mathlib.Core.Path.{◌≡◌}
use Rattle.octets.proofs.Coincide.{coincide}
use Rattle.timer.specs.declared.Timers.{Timers}
use Rattle.timer.specs.Timers.{running_among, expiry_of}
use Rattle.judge_time.specs.declared.Clock.{Clock}
use Rattle.judge_time.specs.declared.Ticked.{Ticked}
use Rattle.judge_time.specs.Clock.{tick_of}

pub tick_coincides : (c : Clock) (before after delta event : ℕ) (a b : Ticked) → a ≡ tick_of c before after delta event → b ≡ tick_of c before after delta event → a ≡ b
tick_coincides c before after delta event = coincide (tick_of c before after delta event)

pub running_number_coincides : (t : Timers) (a b : ℕ) → a ≡ running_among t → b ≡ running_among t → a ≡ b
running_number_coincides t a b = coincide (running_among t) a b

-- expired_number, which is private: the law by number of the timer whose expiry an event is
pub expired_number_coincides : (event a b : ℕ) → a ≡ expiry_of event → b ≡ expiry_of event → a ≡ b
expired_number_coincides event = coincide (expiry_of event)
