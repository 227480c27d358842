-- What each step of our table keeps: a fit context stays fit, an answer is 0 to 3 unless the step is refused, and a refusal changes nothing.
use Prim.Native.Nat.{ℕ, ◌≤◌}
use mathlib.Core.Path.{◌≡◌, sym}
use mathlib.Core.Bool.{true, false}
use mathlib.Core.List.{List}
use lib.Dec.{leb}
use borrow.Author.Tests.{le-ltb}
use Rattle.octets.proofs.Choice.{never}
use Rattle.context.specs.declared.Context.{Context}
use Rattle.fitness.specs.Tables.{fit_of}
use Rattle.fitness.proofs.Tables.{cleared-fit}
use Rattle.message.specs.declared.Own.{Own}
use Rattle.step_arguments.specs.Arguments.{argument_refusal}
use Rattle.radio.specs.Step.{refusal_of, Reaction, step_of}
use Rattle.radio.proofs.Answers.{step_honest, step_keeps_fit}
use Rattle.version.specs.declared.Table.{Table}
use Rattle.judge_laws.specs.Log.{Log, Entry, begin}
use Rattle.judge_laws.specs.Points.{moment_after}
use Rattle.judge_laws.specs.Recorded.{Still}
use Rattle.judge_laws.proofs.Points.{always}
use Rattle.verdict.specs.Table.{GivenEvent, stepped, steps, recordable}

-- A step that is handed a longer reply buffer is the same step.
pub any_room : (table : Table) (own : Own) (identity : List ℕ) (room : ℕ) (x : Context) (e : GivenEvent) → 255 ≤ room
    → step_of table own identity room x e.happened e.octets ≡ stepped table own identity x e
unfolding step_of refusal_of argument_refusal
any_room table own identity room x e h = rw (le-ltb room 255 h)

-- ---- every context come to is fit

module _ (table : Table) (own : Own) (identity : List ℕ) where
  pub fit-after : (x : Context) (e : GivenEvent) → fit_of table x ≡ true → fit_of table ((steps table own identity).after x e) ≡ true
  fit-after x e fit = step_keeps_fit table own identity 255 x e.happened e.octets fit

  pub always-fit : (n : ℕ) (log : Log (Entry (steps table own identity))) → fit_of table (moment_after (steps table own identity) n (begin (steps table own identity)) log).context ≡ true
  always-fit n log = always (steps table own identity) (λ x. fit_of table x ≡ true) (cleared-fit table) fit-after n log

-- A step that is answered over 3 changes nothing.
pub still : (table : Table) (own : Own) (identity : List ℕ) → Still (steps table own identity) (recordable table own identity)
still table own identity x e q =
    let r : Reaction = stepped table own identity x e in
    (step_honest table own identity 255 x e.happened e.octets).kept (λ z. over r.answer z q)
  where
    over : (n : ℕ) → n ≡ 0 → leb n 3 ≡ false → ⊥
    over n z q = never (sym (rw z at q))
