-- Any two outcomes that a public contract of this crate allows coincide. The public functions: `judge_log`.
use Prim.Native.Nat.{ℕ}
use mathlib.Core.Path.{◌≡◌}
use mathlib.Core.List.{List}
use Rattle.octets.proofs.Coincide.{coincide}
use Rattle.verdict.specs.Judge.{judge_of}
use Rattle.settings_octets.specs.Octets.{identity_of, own_of}
use Rattle.judge_numbers.specs.declared.Judgement.{Judgement}
use Rattle.judge_numbers.specs.Judging.{judgement_of}

pub judge-log_coincides : (s log : List ℕ) (a b : Judgement) → a ≡ judgement_of (judge_of (own_of s) (identity_of s) log)
    → b ≡ judgement_of (judge_of (own_of s) (identity_of s) log) → a ≡ b
judge-log_coincides s log = coincide (judgement_of (judge_of (own_of s) (identity_of s) log))
