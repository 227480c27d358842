-- Logs of versions 1 and 2 are judged by the joining timer alone. T_pres runs in no context that they come to, and the length of a timer that never runs changes
-- nothing (table/proofs/NeverRuns): so this is a law, and not a second proof.
use Prim.Native.Nat.{ℕ}
use mathlib.Core.Path.{◌≡◌, refl, sym, ap, ◌∙◌}
use mathlib.Core.Bool.{Bool, true, false, not, ◌||◌}
use mathlib.Core.List.{List}
use mathlib.Core.Logic.{◌↔◌}
use native.Mathlib.Omega.{arith}
use lib.Dec.{eqb}
use borrow.Author.Tests.{eq-eqb}
use Rattle.octets.proofs.Choice.{never}
use Rattle.codes.specs.declared.state.State.{State}
use Rattle.timer.specs.declared.Timer.TheVariants.{Pres}
use Rattle.timer.specs.declared.Timers.{Timers}
use Rattle.timer.specs.Timers.{timer_number, running_among}
use Rattle.timer.proofs.Whole.{of_timers, at_timers}
use Rattle.context.specs.declared.Context.{Context}
use Rattle.context.specs.Running.{runs}
use Rattle.context.proofs.Whole.{if_so, in_states, at_state}
use Rattle.fitness.specs.Fitness.{timers_fit_by}
use Rattle.fitness.specs.Tables.{fitness_of, timers_fit, fit_of}
use Rattle.fitness.proofs.Tables.{fit-timers, cleared-fit}
use Rattle.message.specs.declared.Own.{Own}
use Rattle.version.specs.declared.Table.{Table}
use Rattle.version.specs.declared.Table.TheVariants.{First, Second, Third, Group}
use Rattle.version.specs.Version.{protocol_of}
use Rattle.judge_laws.specs.Log.{WellFormed}
use Rattle.judge_laws.specs.Timers.{Interval, Within}
use Rattle.judge_laws.specs.Verdict.{Verdict, accepted, unreadable, unexplained, IsAccepted}
use Rattle.judge_laws.specs.Judge.{judge}
use Rattle.judge_laws.specs.TwoTimers.{InRange, ExplainedBy, Tells}
use Rattle.judge_laws.specs.NeverRuns.{NeverRuns, first_alone, alone}
use Rattle.judge_laws.proofs.Complete.{accepted_exactly}
use Rattle.judge_laws.proofs.NeverRuns.{first_alone_lem, first-alone_laws, judge-alone}
use Rattle.verdict.specs.declared.Invitation.TheVariants.{Untold}
use Rattle.verdict.specs.declared.Judged.{Judged}
use Rattle.verdict.specs.declared.Judged.TheVariants.{Accepted, Unreadable, Unexplained, TooLong, OutOfRange}
use Rattle.verdict.specs.Table.{steps, joining, invitation, unknowns, tells_invitation}
use Rattle.verdict.specs.Judge.{window_of, interval_of, invitation_told, judged_of, judge_of, answer_number}
use Rattle.verdict.specs.Demand.{Begins, behind}
use Rattle.verdict.proofs.Laws.{steps_laws}
use Rattle.verdict.proofs.Kept.{fit-after}
use Rattle.verdict.proofs.Demand.{verdict_at, tells, judged-begins}

-- ---- T_pres never runs

-- With timers that fit it is not T_pres that runs: in each state, of all timers.
abbrev other_runs : Table → State → Timers → Bool
other_runs table s t = not (timers_fit table s t) || not (eqb (running_among t) (timer_number Pres))

other-runs : (table : Table) → tells_invitation table ≡ false → in_states (λ s. of_timers (other_runs table s)) ≡ true
unfolding tells_invitation timers_fit_by fitness_of protocol_of running_among
other-runs First q = refl
other-runs Second q = refl
other-runs Third q = never (sym q)
other-runs Group q = refl

module _ (table : Table) (untold : tells_invitation table ≡ false) (own : Own) (identity : List ℕ) where
  pub never-invited : NeverRuns (steps table own identity) invitation.timer
  never-invited = record {
    Holds = λ x. fit_of table x ≡ true;
    cleared = cleared-fit table;
    kept = fit-after table own identity;
    off = λ x fit r. absurd (go x fit r);
  }
    where
      go : (x : Context) → fit_of table x ≡ true → runs x ≡ timer_number Pres → ⊥
      go x fit r =
          let all = at_timers (other_runs table x.state) (at_state (λ s. of_timers (other_runs table s)) (other-runs table untold) x.state) x.timers in
          let other : not (eqb (running_among x.timers) (timer_number Pres)) ≡ true = if_so _ _ all (fit-timers table x fit) in
          never (rw (eq-eqb _ _ r) at other)

-- ---- so these logs are judged by the joining timer alone

-- A verdict on one unknown timer, as an answer.
abbrev pub judged_alone : Verdict (Interval × Bool) → Judged
judged_alone (accepted count left) = Accepted count (window_of left.0) Untold
judged_alone (unreadable n) = Unreadable n
judged_alone (unexplained n) = Unexplained n

number-accepted : (v : Verdict (Interval × Bool)) → answer_number (judged_alone v) ≡ 0 → IsAccepted v
number-accepted (accepted n left) z = tt
number-accepted (unreadable n) z = absurd (omega arith)
number-accepted (unexplained n) z = absurd (omega arith)

accepted-number : (v : Verdict (Interval × Bool)) → IsAccepted v → answer_number (judged_alone v) ≡ 0
accepted-number (accepted n left) a = refl
accepted-number (unreadable n) a = absurd a
accepted-number (unexplained n) a = absurd a

module _ (own : Own) (identity s : List ℕ) (b : Begins own identity s) (untold : tells_invitation b.table ≡ false) where
  answers_alone : (v : Verdict (Interval × Interval)) → judged_of b.table v ≡ judged_alone (alone v)
  unfolding invitation_told
  answers_alone (accepted n left) = rw untold
  answers_alone (unreadable n) = refl
  answers_alone (unexplained n) = refl

  -- The verdict where the joining timer alone is unknown, and the invitation timer is of u milliseconds.
  abbrev pub verdict_alone : ℕ → Verdict (Interval × Bool)
  verdict_alone u = judge (steps b.table own identity) (first_alone unknowns u) (behind own identity s b)

  -- That is the answer, whatever u is.
  pub judged-joining : (u : ℕ) → judge_of own identity s ≡ judged_alone (verdict_alone u)
  judged-joining u =
      judged-begins own identity s b ∙ answers_alone (verdict_at own identity s b.table b.place)
      ∙ ap judged_alone (judge-alone (steps b.table own identity) unknowns (never-invited b.table untold own identity) (behind own identity s b)
      (omega arith, omega arith) u (steps_laws b.table own identity))

  -- "it tells the least and greatest": the joining timers between them are exactly those in range that explain every entry, with an invitation timer of any length; and
  -- nothing is told of it.
  abbrev pub JoiningTold : Judged → Type 0
  JoiningTold (Accepted n w told) =
      (told ≡ Untold) × ((t u : ℕ) → Within t (interval_of w) ↔ (InRange joining t × ExplainedBy (steps b.table own identity) unknowns (behind own identity s b) t u))
  JoiningTold (Unreadable n) = Unit
  JoiningTold (Unexplained n) = Unit
  JoiningTold TooLong = Unit
  JoiningTold OutOfRange = Unit

  pub tells_joining : JoiningTold (judge_of own identity s)
  unfolding invitation_told
  tells_joining = rw (judged-begins own identity s b) (go (verdict_at own identity s b.table b.place) (tells own identity s b.table b.place))
    where
      go : (v : Verdict (Interval × Interval)) → Tells (steps b.table own identity) unknowns (behind own identity s b) v → JoiningTold (judged_of b.table v)
      go (accepted n left) p =
          (rw untold, first_alone_lem (steps b.table own identity) unknowns (never-invited b.table untold own identity) (behind own identity s b) n left.0 left.1 p)
      go (unreadable n) p = tt
      go (unexplained n) p = tt

  -- "one joining timer .. explains every entry": accepted exactly if one does, with an invitation timer of any length.
  pub accepts_joining : (u : ℕ) → (answer_number (judge_of own identity s) ≡ 0)
      ↔ (WellFormed (behind own identity s b) × ((t : ℕ) × InRange joining t × ExplainedBy (steps b.table own identity) unknowns (behind own identity s b) t u))
  accepts_joining u =
      let e = judged-joining u in
      let x = accepted_exactly (steps b.table own identity) (first_alone unknowns u) (steps_laws b.table own identity) (first-alone_laws unknowns (omega arith, omega arith) u)
      (behind own identity s b) in (
        λ z. let q = x.0 (number-accepted (verdict_alone u) (sym (ap answer_number e) ∙ z)) in (q.0, (q.1.0.0, q.1.1.0, q.1.2)),
        λ (w, (t, r, y)). ap answer_number e ∙ accepted-number (verdict_alone u) (x.1 (w, ((t, tt), (r, tt), y))),
      )
