-- The judge's verdict in C's numbers: its timers fit, and the identity is the run of the settings' octets.
use Prim.Native.Nat.{ℕ, ◌+◌, ◌-◌, ◌≤◌}
use mathlib.Core.Path.{◌≡◌, sym, ap, subst, ◌∙◌}
use mathlib.Core.List.{List}
use native.Mathlib.Omega.{arith}
use Rattle.octets.specs.Run.{part}
use Rattle.octets.proofs.Choice.{at_cond}
use Rattle.octets.specs.declared.Run.{Run}
use Rattle.message.specs.declared.Own.{Own}
use Rattle.timer.specs.declared.Window.{Window}
use Rattle.timer.specs.Timers.{greatest_invitation}
use Rattle.version.specs.declared.Table.{Table}
use Rattle.judge_laws.specs.Timers.{Interval}
use Rattle.verdict.specs.declared.Invitation.{Invitation}
use Rattle.verdict.specs.declared.Invitation.TheVariants.{Untold, Told}
use Rattle.verdict.specs.Table.{tells_invitation}
use Rattle.verdict.specs.declared.Judged.{Judged}
use Rattle.verdict.specs.declared.Judged.TheVariants.{Accepted, Unreadable, Unexplained, TooLong, OutOfRange}
use Rattle.verdict.specs.Judge.{window_of, invitation_told, judge_of}
use Rattle.verdict.specs.Demand.{Means}
use Rattle.verdict.proofs.Demand.{judge_means}
use Rattle.settings_octets.specs.Octets.{identity_of, identity_run, own_of}
use Rattle.judge_numbers.specs.declared.Judgement.{Judgement}
use Rattle.judge_numbers.specs.Judging.{Fits, Timed, window_told, accepted_with, judgement_of}

module _ (own : Own) (identity s : List ℕ) where
  -- What is told of invitation timers in range fits.
  told-fits : (table : Table) (j : Interval) → j.least ≤ greatest_invitation → j.greatest ≤ greatest_invitation → Fits (window_told (invitation_told table j))
  unfolding invitation_told window_told
  told-fits table j l g = at_cond (λ i. Fits (window_told i)) (tells_invitation table) (Told (window_of j)) Untold (λ t. (l, g)) (λ t. (omega arith, omega arith))

  means_timed : (v : Judged) → Means own identity s v → Timed v
  means_timed (Accepted n joining invitation) (b, j, m, told) =
      let low = (m.between joining.least j.least (omega arith, m.first_ordered) (omega arith, m.second_ordered)).0 in
      let high = (m.between joining.greatest j.greatest (m.first_ordered, omega arith) (m.second_ordered, omega arith)).0 in (
        (omega (arith, low.0), omega (arith, high.0)),
        subst (λ i. Fits (window_told i)) (sym told) (told-fits b.table j low.1.1 high.1.1),
      )
  means_timed (Unreadable n) m = tt
  means_timed (Unexplained n) m = tt
  means_timed TooLong m = tt
  means_timed OutOfRange m = tt

  -- The timers of the judge's answer are joining timers.
  pub judged-timed : (v : Judged) → v ≡ judge_of own identity s → Timed v
  judged-timed v e = subst Timed (sym e) (means_timed (judge_of own identity s) (judge_means own identity s))

pub accepted-timed : (v : Judged) (n : ℕ) (joining : Window) (invitation : Invitation) → Timed v → v ≡ Accepted n joining invitation → Fits joining × Fits (window_told invitation)
accepted-timed v n joining invitation t e = subst Timed e t

-- An accepted log in C's numbers.
pub accepted_judgement : (v : Judged) (n : ℕ) (joining : Window) (invitation : Invitation) → v ≡ Accepted n joining invitation → (w : Window) → w ≡ window_told invitation
    → (r : Judgement) → r ≡ accepted_with n joining w → r ≡ judgement_of v
unfolding judgement_of
accepted_judgement v n joining invitation e w t r q = q ∙ rw (e, t)

-- A part from a start to an end is the run.
pub judged-run : (own : Own) (s log : List ℕ) (start count : ℕ) (v : Judged) → v ≡ judge_of own (part s start (start + count - start)) log
    → v ≡ judge_of own (part s start count) log
judged-run own s log start count v e =
    let n : start + count - start ≡ count = omega arith in e ∙ ap (λ (k : ℕ). judge_of own (part s start k) log) n

pub judged_call : (s log : List ℕ) (own : Own) (run : Run) (v : Judged) (r : Judgement) → own ≡ own_of s → run ≡ identity_run s
    → v ≡ judge_of own (part s run.start run.count) log → r ≡ judgement_of v → r ≡ judgement_of (judge_of (own_of s) (identity_of s) log)
judged_call s log own run v r o u p q =
    let same : judge_of own (part s run.start run.count) log ≡ judge_of (own_of s) (identity_of s) log = rw (o, u) in q ∙ ap judgement_of (p ∙ same)
