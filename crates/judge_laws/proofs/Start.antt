-- The start of the running timer is the time of the entry that turned it on.
use mathlib.Core.Path.{◌≡◌, refl, ap, sym, ◌∙◌}
use mathlib.Core.Bool.{Bool, true, false, cond}
use mathlib.Core.List.{List, [], ◌∷◌}
use mathlib.Core.Logic.{◌⊎◌, inl, inr}
use Prim.Native.Nat.{ℕ}
use lib.Dec.{eqb}
use borrow.Author.Tests.{eqb-true, eqb-false, eq-eqb, ne_eqb}
use Rattle.judge_laws.specs.Steps.{Steps}
use Rattle.judge_laws.specs.Log.{Entry, Moment, begin, timer_before, timer_after, time_of, next}
use Rattle.judge_laws.specs.Start.{NoneAnew, walked, RunsOn, TurnedOn}

module _ (𝓢 : Steps) where
  -- A timer that runs on keeps its start, and any other starts at the entry.
  pub keeps_start : (s : Moment 𝓢) (e : Entry 𝓢) → timer_after 𝓢 s e ≡ timer_before 𝓢 s → (next 𝓢 s e).started ≡ s.started
  keeps_start s e q = rw (eq-eqb _ _ q)

  pub starts-now : (s : Moment 𝓢) (e : Entry 𝓢) → (timer_after 𝓢 s e ≡ timer_before 𝓢 s → ⊥) → (next 𝓢 s e).started ≡ time_of 𝓢 s e
  starts-now s e q = rw (ne_eqb _ _ q)

  -- Where the rows set no timer anew, a timer that runs after an entry was started by it exactly if its row sets one.
  pub started-by-row : (sets : ℕ) (s : Moment 𝓢) (e : Entry 𝓢) → NoneAnew 𝓢 sets s.context e.event → (timer_after 𝓢 s e ≡ 0 → ⊥)
      → (next 𝓢 s e).started ≡ cond (eqb sets 0) s.started (time_of 𝓢 s e)
  started-by-row sets s e r on = go (eqb sets 0) refl
    where
      go : (b : Bool) → eqb sets 0 ≡ b → (next 𝓢 s e).started ≡ cond b s.started (time_of 𝓢 s e)
      go true q = keeps_start s e (r.ran_before (eqb-true _ _ q) on)
      go false q = starts-now s e (λ same. r.not-before (eqb-false _ _ q) (sym same ∙ r.runs_after (eqb-false _ _ q)))

  -- ---- through a whole walk

  runs-first : (k : ℕ) (es : List (Entry 𝓢)) (s : Moment 𝓢) → RunsOn 𝓢 k s es → timer_before 𝓢 s ≡ k
  runs-first k [] s r = r
  runs-first k (e ∷ es) s r = r.0

  -- The timer that runs at the end of a walk ran all through it and kept its start, or was turned on by an entry at the time kept as its start.
  pub start_right : (k : ℕ) (es : List (Entry 𝓢)) (s : Moment 𝓢) → timer_before 𝓢 (walked 𝓢 s es) ≡ k
      → (RunsOn 𝓢 k s es × ((walked 𝓢 s es).started ≡ s.started)) ⊎ TurnedOn 𝓢 k s es (walked 𝓢 s es).started
  start_right k [] s q = inl (q, refl)
  start_right k (e ∷ es) s q = go (start_right k es (next 𝓢 s e) q) (eqb (timer_before 𝓢 s) k) refl
    where
      go : (RunsOn 𝓢 k (next 𝓢 s e) es × ((walked 𝓢 (next 𝓢 s e) es).started ≡ (next 𝓢 s e).started)) ⊎ TurnedOn 𝓢 k (next 𝓢 s e) es (walked 𝓢 (next 𝓢 s e) es).started
          → (b : Bool) → eqb (timer_before 𝓢 s) k ≡ b
          → (RunsOn 𝓢 k s (e ∷ es) × ((walked 𝓢 (next 𝓢 s e) es).started ≡ s.started)) ⊎ TurnedOn 𝓢 k s (e ∷ es) (walked 𝓢 (next 𝓢 s e) es).started
      go (inl r) true w = inl ((eqb-true _ _ w, r.0), r.1 ∙ keeps_start s e (runs-first k es (next 𝓢 s e) r.0 ∙ sym (eqb-true _ _ w)))
      go (inl r) false w = inr (record {
        earlier = [];
        by = e;
        later = es;
        split = refl;
        off = eqb-false _ _ w;
        on = r.0;
        then = r.1 ∙ starts-now s e (λ same. eqb-false _ _ w (sym same ∙ runs-first k es (next 𝓢 s e) r.0));
      })
      go (inr t) b w = inr (record {
        earlier = e ∷ t.earlier;
        by = t.by;
        later = t.later;
        split = ap (λ (l : List (Entry 𝓢)). e ∷ l) t.split;
        off = t.off;
        on = t.on;
        then = t.then;
      })

  -- So from a cleared context in which no timer runs, the start of a running timer is always the time of the entry that turned it on.
  pub start_from_cleared : 𝓢.runs 𝓢.cleared ≡ 0 → (k : ℕ) → (k ≡ 0 → ⊥) → (es : List (Entry 𝓢)) → timer_before 𝓢 (walked 𝓢 (begin 𝓢) es) ≡ k
      → TurnedOn 𝓢 k (begin 𝓢) es (walked 𝓢 (begin 𝓢) es).started
  start_from_cleared none k some es q = go (start_right k es (begin 𝓢) q)
    where
      go : (RunsOn 𝓢 k (begin 𝓢) es × ((walked 𝓢 (begin 𝓢) es).started ≡ 0)) ⊎ TurnedOn 𝓢 k (begin 𝓢) es (walked 𝓢 (begin 𝓢) es).started
          → TurnedOn 𝓢 k (begin 𝓢) es (walked 𝓢 (begin 𝓢) es).started
      go (inl r) = absurd (some (sym (runs-first k es (begin 𝓢) r.0) ∙ none))
      go (inr t) = t
