-- No row sets anew a timer that runs; so the start of the running timer that the judge derives is the time of the entry that set it.
use Prim.Native.Nat.{ℕ}
use mathlib.Core.Path.{◌≡◌, sym}
use mathlib.Core.Bool.{Bool, true, false, cond, not, ◌&&◌, ◌||◌}
use mathlib.Core.List.{List}
use lib.Dec.{eqb}
use lib.ListN.{length}
use borrow.Author.Tests.{not-true, eqb-true, eqb-false, ne_eqb}
use Rattle.octets.proofs.Choice.{never}
use Rattle.context.specs.declared.Context.{Context}
use Rattle.fitness.specs.Tables.{fitness_of, fit_of}
use Rattle.context.specs.Running.{runs}
use Rattle.context.proofs.Whole.{and_left, and_right}
use Rattle.transitions.specs.Table.{step_table}
use Rattle.transitions.proofs.Sound.{rightly, rows_sound}
use Rattle.call.specs.Sets.{set_by_due}
use Rattle.call.proofs.Timed.{stays, timed-by}
use Rattle.message.specs.declared.Own.{Own}
use Rattle.radio.specs.Step.{due_to, reacted_to, refusal_of, reacted, refused, step_of}
use Rattle.version.specs.declared.Table.{Table}
use Rattle.version.specs.Version.{greatest_actions, protocol_of}
use Rattle.judge_laws.specs.Log.{Log, Entry, Moment, begin, timer_after, time_of, next}
use Rattle.judge_laws.specs.Points.{moment_after}
use Rattle.judge_laws.specs.Start.{NoneAnew}
use Rattle.judge_laws.proofs.Start.{started-by-row}
use Rattle.verdict.specs.Table.{GivenEvent, stepped, steps}
use Rattle.verdict.specs.Start.{sets_timer}
use Rattle.verdict.proofs.Kept.{always-fit}

-- ---- no row sets anew a timer that runs

step_right : (table : Table) (own : Own) (identity : List ℕ) (x : Context) (e : GivenEvent) → fit_of table x ≡ true
    → rightly (sets_timer table own identity x e) (runs x) (runs (stepped table own identity x e).context) ≡ true
unfolding sets_timer step_of reacted_to
step_right table own identity x e fit = go (eqb (refusal_of table x own.key (length identity) e.happened (length e.octets) 255) 0)
  where
    go : (b : Bool) → rightly (cond b (set_by_due table x (due_to table identity x e.happened e.octets)) 0) (runs x)
        (runs (cond b (reacted (protocol_of table) own identity e.octets (reacted_to table identity x e.happened e.octets))
        (refused (refusal_of table x own.key (length identity) e.happened (length e.octets) 255) x)).context) ≡ true
    go true = timed-by (fitness_of table) (greatest_actions table) (step_table table) (rows_sound table) x fit (due_to table identity x e.happened e.octets)
    go false = stays (runs x)

one_of : (a b : Bool) → (a || b) ≡ true → a ≡ false → b ≡ true
one_of true b e h = never (sym h)
one_of false b e h = e

where_set : (set before after : ℕ) → rightly set before after ≡ true → (set ≡ 0 → ⊥) → (after ≡ set) × (before ≡ set → ⊥)
where_set set before after r n =
    let q : (eqb after set && not (eqb before set)) ≡ true = rw (ne_eqb set 0 n) at r in
    (eqb-true after set (and_left (eqb after set) _ q), eqb-false before set (not-true _ (and_right (eqb after set) _ q)))

where_none : (set before after : ℕ) → rightly set before after ≡ true → set ≡ 0 → (after ≡ 0 → ⊥) → after ≡ before
where_none set before after r z n =
    let q : (eqb after 0 || eqb after before) ≡ true = rw z at r in
    eqb-true after before (one_of (eqb after 0) _ q (ne_eqb after 0 n))

-- "no row turns on a timer that runs": in every fit context, so in every context come to.
pub none_anew : (table : Table) (own : Own) (identity : List ℕ) (x : Context) (e : GivenEvent) → fit_of table x ≡ true
    → NoneAnew (steps table own identity) (sets_timer table own identity x e) x e
none_anew table own identity x e fit =
    let r = step_right table own identity x e fit in
    record {
      not-before = λ n. (where_set (sets_timer table own identity x e) (runs x) (runs (stepped table own identity x e).context) r n).1;
      runs_after = λ n. (where_set (sets_timer table own identity x e) (runs x) (runs (stepped table own identity x e).context) r n).0;
      ran_before = λ z n. where_none (sets_timer table own identity x e) (runs x) (runs (stepped table own identity x e).context) r z n;
    }

-- So the start that the judge keeps is right: after each entry of a log, a timer that runs was started by that entry exactly if its row sets one.
pub start_by-row : (table : Table) (own : Own) (identity : List ℕ) (n : ℕ) (log : Log (Entry (steps table own identity))) (e : Entry (steps table own identity))
    → let s : Moment (steps table own identity) = moment_after (steps table own identity) n (begin (steps table own identity)) log in
    (timer_after (steps table own identity) s e ≡ 0 → ⊥)
    → (next (steps table own identity) s e).started
    ≡ cond (eqb (sets_timer table own identity s.context e.event) 0) s.started (time_of (steps table own identity) s e)
start_by-row table own identity n log e on =
    let s : Moment (steps table own identity) = moment_after (steps table own identity) n (begin (steps table own identity)) log in
    started-by-row (steps table own identity) (sets_timer table own identity s.context e.event) s e
    (none_anew table own identity s.context e.event (always-fit table own identity n log)) on
