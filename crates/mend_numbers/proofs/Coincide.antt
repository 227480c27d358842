-- Any two outcomes that a public contract of this crate allows coincide: the result and the buffer that is lent. The public functions: `mend_log`.
use Prim.Native.Nat.{ℕ}
use mathlib.Core.Path.{◌≡◌, sym, ◌∙◌}
use mathlib.Core.List.{List}
use Rattle.mend_numbers.specs.declared.Mending.{Mending}
use Rattle.mend_numbers.specs.Numbers.{LogMended}

pub mend_log_coincides : (settings log copy : List ℕ) (a b : Mending) (e f : List ℕ) → LogMended settings log copy a e → LogMended settings log copy b f → (a ≡ b) × (e ≡ f)
mend_log_coincides settings log copy a b e f p q = (p.0 ∙ sym q.0, p.1 ∙ sym q.1)
