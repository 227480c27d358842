-- `head_of` meets its contract, for either flag.
use native.Mathlib.Omega.{arith}
use Rattle.writing.proofs.Heads.{low_small, head_set, head_clear}
use Rattle.writing.proofs.head_of.Goals as goal

pub overflow_add-result-then-flag : goal.overflow_add-result-then-flag
overflow_add-result-then-flag c = omega (arith, low_small _ _ c.discriminator-low.ensures)

pub returns-then-flag : goal.returns-then-flag
returns-then-flag c = head_set _ _ c.discriminator-low.ensures _ _ c.if-flag.true

pub overflow_add-result-2 : goal.overflow_add-result-2
overflow_add-result-2 c = omega (arith, low_small _ _ c.discriminator-low.ensures)

pub returns : goal.returns
returns c = head_clear _ _ c.discriminator-low.ensures _ _ c.if-flag.false
