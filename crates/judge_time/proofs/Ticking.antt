-- The ways of a clock's tick, one return of the code at a time; and which clocks are not astray.
use Prim.Native.Nat.{ℕ, ◌+◌, ◌-◌, ◌≤◌}
use mathlib.Core.Path.{◌≡◌, refl, sym, ◌∙◌}
use mathlib.Core.Bool.{Bool, true, false, ◌||◌}
use lib.Dec.{eqb, ltb}
use borrow.Author.Tests.{ltb-false, le-ltb, ne_eqb}
use Rattle.octets.proofs.Choice.{never}
use Rattle.timer.specs.declared.Timer.TheVariants.{ConnReq, Pres}
use Rattle.timer.specs.declared.Window.{Window}
use Rattle.timer.specs.Timers.{timer_number, expiry_of}
use Rattle.judge_time.specs.declared.Clock.{Clock}
use Rattle.judge_time.specs.declared.Ticked.{Ticked}
use Rattle.judge_time.specs.declared.Ticked.TheVariants.{Onward, OutOfTime, Astray}
use Rattle.judge_time.specs.Clock.{astray, untimely_at, window_left, started_at, left_with, while_running, tick_of}

-- ---- astray

neither_first : (a b : Bool) → (a || b) ≡ false → a ≡ false
neither_first true b e = e
neither_first false b e = refl

neither_second : (a b : Bool) → (a || b) ≡ false → b ≡ false
neither_second true b e = never (sym e)
neither_second false b e = e

pub timely : (time started : ℕ) → astray time started ≡ false → (time ≤ 5662310400000) × (started ≤ time)
unfolding astray
timely time started e =
    (ltb-false 5662310400000 time (neither_first (ltb 5662310400000 time) _ e), ltb-false time started (neither_second (ltb 5662310400000 time) _ e))

pub not-astray : (time started : ℕ) → time ≤ 5662310400000 → started ≤ time → astray time started ≡ false
unfolding astray
not-astray time started h k = rw (le-ltb 5662310400000 time h, le-ltb time started k)

-- ---- the ways of a tick while a timer runs

module _ (joining invitation : Window) (timer age : ℕ) (ends : Bool) (time started : ℕ) where
  pub rule_broken : untimely_at timer age ends ≡ true → OutOfTime ≡ while_running joining invitation timer age ends time started
  unfolding while_running
  rule_broken u = rw u

  pub rule_kept : untimely_at timer age ends ≡ false → (a b : ℕ) → a ≡ timer_number ConnReq → b ≡ timer_number Pres
      → (i j : Window) → i ≡ window_left (eqb timer a) age ends joining → j ≡ window_left (eqb timer b) age ends invitation
      → (v : Ticked) → v ≡ left_with i j time started → v ≡ while_running joining invitation timer age ends time started
  unfolding while_running
  rule_kept u a b p q i j k l v w = w ∙ rw (u, k, l, p, q)

-- ---- the ways of a tick

module _ (c : Clock) (before after delta event : ℕ) where
  pub goes_astray : astray c.time c.started ≡ true → Astray ≡ tick_of c before after delta event
  unfolding tick_of
  goes_astray a = rw a

  module _ (a : astray c.time c.started ≡ false) (started : ℕ) (p : started ≡ started_at before after c.started (c.time + delta)) where
    pub none_runs_lem : before ≡ 0 → Onward (record { time = c.time + delta; started = started; joining = c.joining; invitation = c.invitation }) ≡ tick_of c before after delta event
    unfolding tick_of
    none_runs_lem z = rw (a, ← p, z)

    pub one-runs : (before ≡ 0 → ⊥) → (expiry : ℕ) → expiry ≡ expiry_of event → (v : Ticked)
        → v ≡ while_running c.joining c.invitation before (c.time + delta - c.started) (eqb expiry before) (c.time + delta) started → v ≡ tick_of c before after delta event
    unfolding tick_of
    one-runs n expiry e v k = k ∙ rw (a, ne_eqb before 0 n, ← e, ← p)
