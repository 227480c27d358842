-- Every public function's contract determines its answer: any two outcomes that it allows coincide.
use Prim.Native.Nat.{ℕ}
use mathlib.Core.Path.{◌≡◌}
use mathlib.Core.List.{List}
use Rattle.octets.proofs.Coincide.{coincide}
use Rattle.message.specs.declared.Own.{Own}
use Rattle.verdict.specs.declared.Judged.{Judged}
use Rattle.verdict.specs.Judge.{judge_of}
use Rattle.judge.specs.declared.Examined.{Examined}
use Rattle.judge.specs.Examining.{examined_of}

pub judge_coincides : (own : Own) (identity s : List ℕ) (a b : Judged) → a ≡ judge_of own identity s → b ≡ judge_of own identity s → a ≡ b
judge_coincides own identity s = coincide (judge_of own identity s)

pub examine_coincides : (own : Own) (identity s : List ℕ) (a b : Examined) → a ≡ examined_of own identity s → b ≡ examined_of own identity s → a ≡ b
examine_coincides own identity s = coincide (examined_of own identity s)
