-- A stretch of a log through which one timer runs is no longer than that timer: the running timer was started no later than the stretch began, keeps its start as long as
-- it runs, and no entry comes later than its end.
use Prim.Native.Nat.{ℕ, ◌+◌, ◌≤◌}
use mathlib.Core.Path.{◌≡◌, sym, ap, subst, ◌∙◌}
use mathlib.Core.Bool.{true}
use mathlib.Core.List.{List, [], ◌∷◌, ◌++◌}
use native.Mathlib.Omega.{arith}
use lib.ListN.{length}
use Rattle.context.specs.declared.Context.{Context}
use Rattle.context.specs.Running.{runs}
use Rattle.context.specs.States.{number_of}
use Rattle.fitness.specs.Tables.{fit_of}
use Rattle.message.specs.declared.Own.{Own}
use Rattle.version.specs.declared.Table.{Table}
use Rattle.judge_laws.specs.Log.{Log, done, torn, entry, Entry, Moment, Ordered, next, Explained, Explains}
use Rattle.judge_laws.proofs.Start.{keeps_start}
use Rattle.judge_laws.proofs.Right.{next_ordered}
use Rattle.verdict.specs.Table.{GivenEvent, Claim, stepped, steps}
use Rattle.verdict.proofs.Kept.{fit-after}
use Rattle.waiting.specs.Visits.{Noted, noted_at, noted_from, Each}

-- ---- lists of entries

nothing : Noted
nothing = record { time = 0; event = 0; state = 0 }

abbrev head_of : List Noted → Noted
head_of [] = nothing
head_of (n ∷ more) = n

abbrev tail_of : List Noted → List Noted
tail_of [] = []
tail_of (n ∷ more) = more

none_left : {A : Type 0} (n : Noted) (more : List Noted) → [] ≡ n ∷ more → A
none_left n more e = let z : 0 ≡ length (n ∷ more) = ap length e in absurd (omega arith)

-- ---- a timer that runs through a stretch

-- In a context of which On holds timer k runs. On holds after an entry that begins a stretch, and still after one that stays in it; both are told by its event and by the
-- state after it.
pub record Runs (table : Table) (own : Own) (identity : List ℕ) (k : ℕ) (On : Context → Type 0) (Begins Stays : ℕ → ℕ → Type 0) : Type 0 where
  pub running : (x : Context) → fit_of table x ≡ true → On x → runs x ≡ k
  pub begun : (x : Context) (e : GivenEvent) → fit_of table x ≡ true
      → Begins e.happened.number (number_of (stepped table own identity x e).context.state) → On (stepped table own identity x e).context
  pub kept : (x : Context) (e : GivenEvent) → fit_of table x ≡ true → On x
      → Stays e.happened.number (number_of (stepped table own identity x e).context.state) → On (stepped table own identity x e).context

module _ (table : Table) (own : Own) (identity : List ℕ) (k : ℕ) (some : k ≡ 0 → ⊥) (On : Context → Type 0) (Begins Stays : ℕ → ℕ → Type 0)
    (run : Runs table own identity k On Begins Stays) (lengths : ℕ → ℕ) where
  -- What an explained entry claims is the state after its step.
  claimed-state : (s : Moment (steps table own identity)) (e : Entry (steps table own identity)) → Explained (steps table own identity) lengths s e
      → e.claim.state ≡ number_of (stepped table own identity s.context e.event).context.state
  claimed-state s e x = sym (ap (λ (c : Claim). c.state) x.claimed)

  -- While timer k runs, from a time no earlier than its start.
  ends_by : (log : Log (Entry (steps table own identity))) (stays : List Noted) (s : Moment (steps table own identity)) (from : ℕ) (last : Noted) (behind : List Noted)
      → fit_of table s.context ≡ true → On s.context → s.started ≤ from → Explains (steps table own identity) lengths s log
      → noted_from table own identity s.time log ≡ stays ++ (last ∷ behind) → Each (λ n. Stays n.event n.state) stays → last.time ≤ from + lengths k
  ends_by done [] s from last behind fit on h x e each = none_left last behind e
  ends_by done (n ∷ stays) s from last behind fit on h x e each = none_left n (stays ++ (last ∷ behind)) e
  ends_by torn [] s from last behind fit on h x e each = none_left last behind e
  ends_by torn (n ∷ stays) s from last behind fit on h x e each = none_left n (stays ++ (last ∷ behind)) e
  ends_by (entry e rest) [] s from last behind fit on h x q each =
      let r : runs s.context ≡ k = run.running s.context fit on in
      let w : s.time + e.delta ≤ s.started + lengths (runs s.context) = x.0.timed.within (λ z. some (sym r ∙ z)) in
      let v : s.time + e.delta ≤ s.started + lengths k = rw r at w in
      let t : s.time + e.delta ≡ last.time = ap (λ (l : List Noted). (head_of l).time) q in
      omega arith
  ends_by (entry e rest) (n ∷ stays) s from last behind fit on h x q each =
      let r : runs s.context ≡ k = run.running s.context fit on in
      let m : noted_at table own identity (s.time + e.delta) e ≡ n = ap head_of q in
      let stayed : Stays n.event n.state = each.0 in
      let stay : Stays e.event.happened.number e.claim.state = rw (← m) at stayed in
      let there : On (stepped table own identity s.context e.event).context = run.kept s.context e.event fit on (rw (claimed-state s e x.0) at stay) in
      let fits = fit-after table own identity s.context e.event fit in
      let start = keeps_start (steps table own identity) s e (run.running _ fits there ∙ sym r) in
      ends_by rest stays (next (steps table own identity) s e) from last behind fits there (rw start h) x.1 (ap tail_of q) each.1

  -- From the entry that begins a stretch.
  pub stretch : (log : Log (Entry (steps table own identity))) (before : List Noted) (s : Moment (steps table own identity)) (first : Noted) (stays : List Noted) (last : Noted) (behind : List Noted)
      → fit_of table s.context ≡ true → Ordered s → Explains (steps table own identity) lengths s log
      → noted_from table own identity s.time log ≡ before ++ (first ∷ (stays ++ (last ∷ behind)))
      → Begins first.event first.state → Each (λ n. Stays n.event n.state) stays → last.time ≤ first.time + lengths k
  stretch done [] s first stays last behind fit o x q b each = none_left first (stays ++ (last ∷ behind)) q
  stretch done (n ∷ before) s first stays last behind fit o x q b each = none_left n (before ++ (first ∷ (stays ++ (last ∷ behind)))) q
  stretch torn [] s first stays last behind fit o x q b each = none_left first (stays ++ (last ∷ behind)) q
  stretch torn (n ∷ before) s first stays last behind fit o x q b each = none_left n (before ++ (first ∷ (stays ++ (last ∷ behind)))) q
  stretch (entry e rest) [] s first stays last behind fit o x q b each =
      let m : noted_at table own identity (s.time + e.delta) e ≡ first = ap head_of q in
      let begin : Begins e.event.happened.number e.claim.state = rw (← m) at b in
      let there : On (stepped table own identity s.context e.event).context = run.begun s.context e.event fit (rw (claimed-state s e x.0) at begin) in
      let t : s.time + e.delta ≡ first.time = ap (λ (n : Noted). n.time) m in
      subst (λ (from : ℕ). last.time ≤ from + lengths k) t
      (ends_by rest stays (next (steps table own identity) s e) (s.time + e.delta) last behind (fit-after table own identity s.context e.event fit) there
      (next_ordered (steps table own identity) s e o) x.1 (ap tail_of q) each)
  stretch (entry e rest) (n ∷ before) s first stays last behind fit o x q b each =
      stretch rest before (next (steps table own identity) s e) first stays last behind (fit-after table own identity s.context e.event fit)
      (next_ordered (steps table own identity) s e o) x.1 (ap tail_of q) b each
