-- What sound rows decide.
use Prim.Native.Nat.{ℕ}
use mathlib.Core.Path.{◌≡◌, refl, sym, ◌∙◌}
use mathlib.Core.List.{List}
use mathlib.Core.Bool.{true, false, cond}
use lib.Dec.{eqb, leb}
use borrow.Author.Tests.{not-true}
use Rattle.octets.proofs.Choice.{never}
use Rattle.codes.specs.declared.state.State.TheVariants.{U0}
use Rattle.context.specs.declared.Context.{Context}
use Rattle.timer.specs.Timers.{any_on, number_of_any, running_among}
use Rattle.context.specs.States.{same}
use Rattle.fitness.specs.Fitness.{Fitness, fit_by}
use Rattle.context.proofs.Whole.{if_so}
use Rattle.fitness.proofs.Fit.{fit-timers}
use Rattle.transitions.specs.declared.Taken.{Taken}
use Rattle.transitions.specs.declared.Decision.{Decision}
use Rattle.transitions.specs.declared.Decision.TheVariants.{Take, NoStep, Ignore, Report, TellStatus, SetParameters}
use Rattle.transitions.specs.Table.{Row, timers_after, decided_by}
use Rattle.transitions.proofs.Every.{decided_holds}
use Rattle.transitions.proofs.Sound.{keeps_fit, keeps_talk, sets_fresh, rightly, sets_rightly, at_most, Sound}

-- What holds of a row that is taken; the other decisions take none.
abbrev pub OfTaken : (Taken → Type 0) → Decision → Type 0
OfTaken P (Take d) = P d
OfTaken P NoStep = Unit {0}
OfTaken P Ignore = Unit {0}
OfTaken P (Report cause) = Unit {0}
OfTaken P TellStatus = Unit {0}
OfTaken P SetParameters = Unit {0}

-- An event that is no message takes a row, or has no step.
abbrev pub Plain : Decision → Type 0
Plain (Take d) = Unit {0}
Plain NoStep = Unit {0}
Plain Ignore = ⊥
Plain (Report cause) = ⊥
Plain TellStatus = ⊥
Plain SetParameters = ⊥

-- The table ignores nothing.
abbrev pub Listens : Decision → Type 0
Listens (Take d) = Unit {0}
Listens NoStep = Unit {0}
Listens Ignore = ⊥
Listens (Report cause) = Unit {0}
Listens TellStatus = Unit {0}
Listens SetParameters = Unit {0}

abbrev pub SetRightly : Context → Taken → Type 0
SetRightly x d =
    rightly (number_of_any d.sets) (running_among x.timers) (cond (same d.next U0) 0 (running_among (timers_after d x.timers))) ≡ true

-- The same of what a group call keeps.
abbrev pub KeepsTalk : Fitness → Context → Taken → Type 0
KeepsTalk fitness x d = keeps_talk fitness 0 x.state x.timers x.remembered d ≡ true

abbrev pub Keeps : Fitness → Context → Decision → Type 0
Keeps fitness x (Take d) = keeps_fit fitness 0 x.state x.timers x.remembered d ≡ true
Keeps fitness x NoStep = Unit {0}
Keeps fitness x Ignore = Unit {0}
Keeps fitness x (Report cause) = Unit {0}
Keeps fitness x TellStatus = Unit {0}
Keeps fitness x SetParameters = same x.state U0 ≡ false

-- Only a message, event 18, sets parameters.
abbrev pub Heard : ℕ → Decision → Type 0
Heard n (Take d) = Unit {0}
Heard n NoStep = Unit {0}
Heard n Ignore = Unit {0}
Heard n (Report cause) = Unit {0}
Heard n TellStatus = Unit {0}
Heard n SetParameters = eqb n 18 ≡ true

module _ (fitness : Fitness) (most : ℕ) (table : List Row) (sound : Sound fitness most table) (x : Context) where
  -- Actions are at most their sum.
  pub decided_few : (n code : ℕ) → OfTaken (λ d. leb d.actions most ≡ true) (decided_by table x n code)
  decided_few =
      decided_holds (at_most most) (λ k. OfTaken (λ d. leb d.actions most ≡ true)) x (λ k d e. e) (λ k. tt) (λ cause. tt) table sound.actions-few (λ u. tt) tt (λ u. tt)

  -- Outside U0 the table itself ignores nothing.
  pub decided_listens : same x.state U0 ≡ false → (n code : ℕ) → Listens (decided_by table x n code)
  decided_listens calling =
      decided_holds (at_most most) (λ k. Listens) x (λ k d e. tt) (λ k. tt) (λ cause. tt) table sound.actions-few (λ u. never (sym calling ∙ u)) tt (λ u. tt)

  -- What fits stays fit, as far as timers go; SET PARAMETER is not in U0, which is cleared.
  pub decided_keeps : (n code : ℕ) → Keeps fitness x (decided_by table x n code)
  decided_keeps = decided_holds (keeps_fit fitness) (λ k. Keeps fitness x) x (λ k d e. e) (λ k. tt) (λ cause. tt) table sound.fit-kept (λ u. tt) tt (λ u. u)

  pub decided_talk : (n code : ℕ) → OfTaken (KeepsTalk fitness x) (decided_by table x n code)
  decided_talk = decided_holds (keeps_talk fitness) (λ k. OfTaken (KeepsTalk fitness x)) x (λ k d e. e) (λ k. tt) (λ cause. tt) table sound.talk_kept (λ u. tt) tt (λ u. tt)

  pub decided_heard : (n code : ℕ) → Heard n (decided_by table x n code)
  decided_heard = decided_holds (at_most most) Heard x (λ k d e. tt) (λ k. tt) (λ cause. tt) table sound.actions-few (λ u. tt) tt (λ u. refl)

  -- No timer is set anew while it runs: in a fit context a row that is taken sets none that runs.
  pub sets_fresh_lem : fit_by fitness x ≡ true → (n code : ℕ) → OfTaken (λ d. any_on d.sets x.timers ≡ false) (decided_by table x n code)
  sets_fresh_lem fit =
      decided_holds (sets_fresh fitness) (λ k. OfTaken (λ d. any_on d.sets x.timers ≡ false)) x
      (λ k d e. not-true _ (if_so _ _ e (fit-timers fitness x fit))) (λ k. tt) (λ cause. tt) table sound.set_fresh (λ u. tt) tt (λ u. tt)

  -- The timer that is set did not run, and runs afterwards; where none is set, the one that runs is the one that ran.
  pub sets-rightly : fit_by fitness x ≡ true → (n code : ℕ) → OfTaken (SetRightly x) (decided_by table x n code)
  sets-rightly fit =
      decided_holds (sets_rightly fitness) (λ k. OfTaken (SetRightly x)) x (λ k d e. if_so _ _ e (fit-timers fitness x fit)) (λ k. tt) (λ cause. tt) table sound.set-rightly (λ u. tt) tt (λ u. tt)

  pub event-plain : (n code : ℕ) → eqb n 18 ≡ false → Plain (decided_by table x n code)
  event-plain =
      decided_holds (at_most most) (λ k c. eqb k 18 ≡ false → Plain c) x (λ k d e f. tt) (λ k f. tt) (λ cause f. never (sym f)) table sound.actions-few (λ u f. never (sym f))
      (λ f. never (sym f)) (λ u f. never (sym f))
