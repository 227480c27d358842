-- The length of a timer that never runs changes nothing: what explains a log explains it under any length of that timer. So where the second of two unknown timers
-- never runs, the judge leaves its whole range, and tells of the first what it would tell if the second were known, however long it were.
use mathlib.Core.Path.{◌≡◌, refl, sym, ◌∙◌}
use mathlib.Core.Logic.{◌↔◌}
use Prim.Native.Nat.{ℕ, zero, suc}
use native.Mathlib.Omega.{arith}
use native.Mathlib.Nat.{zero-add}
use borrow.Author.Tests.{ne_eqb}
use Rattle.judge_laws.specs.Steps.{Steps, StepLaws}
use Rattle.judge_laws.specs.Log.{Log, done, torn, entry, Entry, Moment, begin, timer_before, next, Explained, Explains, ExplainsFirst}
use Rattle.judge_laws.specs.Timers.{TimerLaws, Interval, Within, all_known}
use Rattle.judge_laws.specs.Verdict.{Verdict, accepted, unreadable, unexplained, Means}
use Rattle.judge_laws.specs.Judge.{judge}
use Rattle.judge_laws.specs.TwoTimers.{Unknowns, known_with, lengths_with, InRange, range, ExplainedBy, FirstExplainedBy, AcceptedBetween, Tells, judge_two}
use Rattle.judge_laws.specs.NeverRuns.{NeverRuns, SameBut, first_alone, alone}
use Rattle.judge_laws.proofs.Timers.{all-known_laws, one_more_laws, interval_same}
use Rattle.judge_laws.proofs.Unique.{judge_only}
use Rattle.judge_laws.proofs.TwoTimers.{Ordered, judge_two_tells}

-- ---- any lengths that differ in that timer's alone

module _ (𝓢 : Steps) (k : ℕ) (never : NeverRuns 𝓢 k) (lengths others : ℕ → ℕ) (same : SameBut k lengths others) where
  explained_so : (s : Moment 𝓢) (e : Entry 𝓢) → never.Holds s.context → Explained 𝓢 lengths s e → Explained 𝓢 others s e
  explained_so s e h x =
      let q : lengths (timer_before 𝓢 s) ≡ others (timer_before 𝓢 s) = same _ (never.off s.context h) in
      record {
        timed = record { within = λ n. rw (← q) (x.timed.within n); exact = λ n f. rw (← q) (x.timed.exact n f) };
        claimed = x.claimed;
      }

  explains_so : (log : Log (Entry 𝓢)) (s : Moment 𝓢) → never.Holds s.context → Explains 𝓢 lengths s log → Explains 𝓢 others s log
  explains_so done s h x = tt
  explains_so torn s h x = tt
  explains_so (entry e rest) s h x = (explained_so s e h x.0, explains_so rest (next 𝓢 s e) (never.kept s.context e.event h) x.1)

  explains-first_so : (log : Log (Entry 𝓢)) (n : ℕ) (s : Moment 𝓢) → never.Holds s.context → ExplainsFirst 𝓢 lengths s n log → ExplainsFirst 𝓢 others s n log
  explains-first_so log zero s h x = tt
  explains-first_so done (suc n) s h x = x
  explains-first_so torn (suc n) s h x = x
  explains-first_so (entry e rest) (suc n) s h x = (explained_so s e h x.0, explains-first_so rest n (next 𝓢 s e) (never.kept s.context e.event h) x.1)

module _ (𝓢 : Steps) (k : ℕ) (never : NeverRuns 𝓢 k) (lengths others : ℕ → ℕ) (same : SameBut k lengths others) (s : Moment 𝓢) (h : never.Holds s.context) (log : Log (Entry 𝓢)) where
  pub explains-either : Explains 𝓢 lengths s log ↔ Explains 𝓢 others s log
  explains-either = (explains_so 𝓢 k never lengths others same log s h, explains_so 𝓢 k never others lengths (λ timer n. sym (same timer n)) log s h)

  pub explains-first-either : (n : ℕ) → ExplainsFirst 𝓢 lengths s n log ↔ ExplainsFirst 𝓢 others s n log
  explains-first-either n =
      (explains-first_so 𝓢 k never lengths others same log n s h, explains-first_so 𝓢 k never others lengths (λ timer d. sym (same timer d)) log n s h)

-- ---- the second of two unknown timers

-- The first alone keeps the laws of timers.
pub first-alone_laws : (𝓤 : Unknowns) → Ordered 𝓤 → (u : ℕ) → TimerLaws (first_alone 𝓤 u)
first-alone_laws 𝓤 ordered u =
    let a = 𝓤.first in
    one_more_laws a.timer a.low a.high (all_known (known_with 𝓤 u)) (all-known_laws (known_with 𝓤 u)) ordered.0

module _ (𝓢 : Steps) (𝓤 : Unknowns) (never : NeverRuns 𝓢 𝓤.second.timer) (log : Log (Entry 𝓢)) where
  differ-there : (t u v : ℕ) → SameBut 𝓤.second.timer (lengths_with 𝓤 t u) (lengths_with 𝓤 t v)
  differ-there t u v timer n = rw (ne_eqb _ _ n)

  -- What explains a log with one length of the second explains it with any other.
  pub any_second : (t u v : ℕ) → ExplainedBy 𝓢 𝓤 log t u → ExplainedBy 𝓢 𝓤 log t v
  any_second t u v x = (explains-either 𝓢 _ never (lengths_with 𝓤 t u) (lengths_with 𝓤 t v) (differ-there t u v) (begin 𝓢) never.cleared log).0 x

  any_second-first : (n t u v : ℕ) → FirstExplainedBy 𝓢 𝓤 log n t u → FirstExplainedBy 𝓢 𝓤 log n t v
  any_second-first n t u v x = (explains-first-either 𝓢 _ never (lengths_with 𝓤 t u) (lengths_with 𝓤 t v) (differ-there t u v) (begin 𝓢) never.cleared log n).0 x

  -- Its whole range is left.
  pub second-whole : (n : ℕ) (i j : Interval) → AcceptedBetween 𝓢 𝓤 log n i j → j ≡ range 𝓤.second
  second-whole n i j p =
      let t = i.least in
      let x = p.between t j.least (omega arith, p.first_ordered) (omega arith, p.second_ordered) in
      interval_same j (range 𝓤.second) p.second_ordered (omega (arith, x.0.1))
      (λ u w. (p.between t u (omega arith, p.first_ordered) w).0.1)
      (λ u r. (p.no_other t u (x.0.0, r) (any_second t j.least u x.1)).1)

  -- And the lengths of the first that are told are exactly those in range that explain the log, with any length of the second.
  pub first_alone_lem : (n : ℕ) (i j : Interval) → AcceptedBetween 𝓢 𝓤 log n i j → (t u : ℕ) → Within t i ↔ (InRange 𝓤.first t × ExplainedBy 𝓢 𝓤 log t u)
  first_alone_lem n i j p t u =
      let v = j.least in
      let r : InRange 𝓤.second v = (p.between i.least v (omega arith, p.first_ordered) (omega arith, p.second_ordered)).0.1 in (
        λ w. let q = p.between t v w (omega arith, p.second_ordered) in (q.0.0, any_second t v u q.1),
        λ h. (p.no_other t v (h.0, r) (any_second t u v h.1)).0,
      )

  module _ (ordered : Ordered 𝓤) (u : ℕ) where
    in_its_range : InRange 𝓤.second 𝓤.second.low
    in_its_range = (omega arith, ordered.1)

    -- What is told of two is told of the first alone, where the second is of u milliseconds, in its range or not.
    tells_alone : (v : Verdict (Interval × Interval)) → Tells 𝓢 𝓤 log v → Means 𝓢 (first_alone 𝓤 u) log (alone v)
    tells_alone (accepted n left) p = record {
      counted = p.counted ∙ sym (zero-add _);
      well_formed = p.well_formed;
      one = ((left.0.least, tt), ((omega arith, p.first_ordered), refl));
      explains = λ c h. let q = (first_alone_lem n left.0 left.1 p c.0 u).0 h.0 in ((q.0, tt), q.1);
      all = λ c h x. ((first_alone_lem n left.0 left.1 p c.0 u).1 (h.0, x), refl);
    }
    tells_alone (unreadable n) p = record {
      before = p.before;
      placed = p.placed ∙ sym (zero-add _);
      torn-there = p.torn-there;
      some = let q = p.some in ((q.first, tt), (q.in_range.0, tt), any_second-first p.before q.first q.second u q.explains);
    }
    tells_alone (unexplained n) p = record {
      before = p.before;
      placed = p.placed ∙ sym (zero-add _);
      there = p.there;
      some = let q = p.some in ((q.first, tt), (q.in_range.0, tt), any_second-first p.before q.first q.second u q.explains);
      none = λ c h x. p.none c.0 𝓤.second.low (h.0, in_its_range) (any_second-first (suc p.before) c.0 u 𝓤.second.low x);
    }

    -- So the judge of the two tells of the first what the judge of the first alone does.
    pub judge-alone : StepLaws 𝓢 → alone (judge_two 𝓢 𝓤 log) ≡ judge 𝓢 (first_alone 𝓤 u) log
    judge-alone step-laws =
        judge_only 𝓢 (first_alone 𝓤 u) step-laws (first-alone_laws 𝓤 ordered u) log (alone (judge_two 𝓢 𝓤 log))
        (tells_alone (judge_two 𝓢 𝓤 log) (judge_two_tells 𝓢 𝓤 step-laws ordered log))
