-- When the timer that runs was started: the condition on a table under which `started_after` is right, and what it then means for a whole walk.
use Rattle.std.specs.Prelude.{◌≡◌, List, [], ◌∷◌, ◌++◌, ℕ}
use Rattle.judge_laws.specs.Steps.{Steps}
use Rattle.judge_laws.specs.Log.{Entry, Moment, timer_before, time_of, next}

module _ (𝓢 : Steps) where
  -- Of a row that itself says which timer it sets (0 for none): it sets no timer that runs; what it sets runs after it; where it sets
  -- none, what runs after it ran before.
  pub record NoneAnew (sets : ℕ) (context : 𝓢.Context) (event : 𝓢.Event) : Type 0 where
    pub not-before : (sets ≡ 0 → ⊥) → 𝓢.runs context ≡ sets → ⊥
    pub runs_after : (sets ≡ 0 → ⊥) → 𝓢.runs (𝓢.after context event) ≡ sets
    pub ran_before : sets ≡ 0 → (𝓢.runs (𝓢.after context event) ≡ 0 → ⊥) → 𝓢.runs (𝓢.after context event) ≡ 𝓢.runs context

  -- The moment after some entries.
  abbrev pub walked : Moment 𝓢 → List (Entry 𝓢) → Moment 𝓢
  walked s [] = s
  walked s (e ∷ es) = walked (next 𝓢 s e) es

  -- Timer k runs at the moment s and after each of these entries.
  abbrev pub RunsOn : ℕ → Moment 𝓢 → List (Entry 𝓢) → Type 0
  RunsOn k s [] = timer_before 𝓢 s ≡ k
  RunsOn k s (e ∷ es) = (timer_before 𝓢 s ≡ k) × RunsOn k (next 𝓢 s e) es

  -- Among the entries, one turned timer k on, at the time told, and k ran on from there.
  pub record TurnedOn (k : ℕ) (s : Moment 𝓢) (es : List (Entry 𝓢)) (time : ℕ) : Type 0 where
    pub earlier : List (Entry 𝓢)
    pub by : Entry 𝓢
    pub later : List (Entry 𝓢)
    pub split : es ≡ earlier ++ (by ∷ later)
    pub off : timer_before 𝓢 (walked s earlier) ≡ k → ⊥
    pub on : RunsOn k (next 𝓢 (walked s earlier) by) later
    pub then : time ≡ time_of 𝓢 (walked s earlier) by
