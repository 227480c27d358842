-- A timer that never runs, and one unknown timer alone: what is left to tell where the second of two never runs.
use Rattle.std.specs.Prelude.{◌≡◌, Bool, true, ℕ}
use Rattle.judge_laws.specs.Steps.{Steps}
use Rattle.judge_laws.specs.Timers.{Timers, Interval, all_known}
use Rattle.judge_laws.specs.Verdict.{Verdict, accepted, unreadable, unexplained}
use Rattle.judge_laws.specs.TwoTimers.{Unknowns, beside, known_with}

-- Timer k runs in no context that a log comes to: something holds of the cleared context, is kept by every step, and does not hold where k runs.
pub record NeverRuns (𝓢 : Steps) (k : ℕ) : Type 1 where
  pub Holds : 𝓢.Context → Type 0
  pub cleared : Holds 𝓢.cleared
  pub kept : (x : 𝓢.Context) (e : 𝓢.Event) → Holds x → Holds (𝓢.after x e)
  pub off : (x : 𝓢.Context) → Holds x → 𝓢.runs x ≡ k → ⊥

-- Lengths that are the same but for timer k.
abbrev pub SameBut : ℕ → (ℕ → ℕ) → (ℕ → ℕ) → Type 0
SameBut k lengths others = (timer : ℕ) → (timer ≡ k → ⊥) → lengths timer ≡ others timer

-- One unknown timer: the first alone, where the second is of u milliseconds.
abbrev pub first_alone : Unknowns → ℕ → Timers
first_alone 𝓤 u = beside 𝓤.first (all_known (known_with 𝓤 u))

-- A verdict that tells of the first alone.
abbrev pub alone : Verdict (Interval × Interval) → Verdict (Interval × Bool)
alone (accepted entries left) = accepted entries (left.0, true)
alone (unreadable place) = unreadable place
alone (unexplained place) = unexplained place
