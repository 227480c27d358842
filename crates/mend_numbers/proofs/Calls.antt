-- A log mended in C's numbers: the identity is the run of the settings' octets.
use Prim.Native.Nat.{ℕ, ◌+◌, ◌-◌}
use mathlib.Core.Path.{◌≡◌, ap, subst, ◌∙◌}
use mathlib.Core.List.{List}
use native.Mathlib.Omega.{arith}
use Rattle.octets.specs.Run.{part}
use Rattle.octets.specs.declared.Run.{Run}
use Rattle.message.specs.declared.Own.{Own}
use Rattle.settings_octets.specs.Octets.{identity_of, identity_run, own_of}
use Rattle.mend.specs.declared.Mended.{Mended}
use Rattle.mend.specs.Mending.{Mends}
use Rattle.mend_numbers.specs.declared.Mending.{Mending}
use Rattle.mend_numbers.specs.Numbers.{LogMended, mending_of}

-- A part from a start to an end is the run.
pub mended_run : (own : Own) (s log before after : List ℕ) (start count : ℕ) (r : Mended) → Mends own (part s start (start + count - start)) log before after r
    → Mends own (part s start count) log before after r
mended_run own s log before after start count r p =
    let n : start + count - start ≡ count = omega arith in subst (λ (k : ℕ). Mends own (part s start k) log before after r) n p

pub mended_call : (s log before after : List ℕ) (own : Own) (run : Run) (v : Mended) (r : Mending) → own ≡ own_of s → run ≡ identity_run s
    → Mends own (part s run.start run.count) log before after v → r ≡ mending_of v → LogMended s log before r after
mended_call s log before after own run v r o u p q =
    let same : Mends (own_of s) (identity_of s) log before after v = rw (← o, ← u) p in (q ∙ ap mending_of same.answer, same.leaves)
