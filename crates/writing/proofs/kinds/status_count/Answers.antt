-- `status_count` meets its contract: no half octet takes more than one.
use native.Mathlib.Omega.{arith}
use Rattle.limits.proofs.Tests.{half_small}
use Rattle.writing.proofs.kinds.status_count.Goals as goal

pub overflow_add-result-2 : goal.overflow_add-result-2
overflow_add-result-2 c = omega (arith, c.half_count.ensures, half_small c.args.state)

pub overflow_add-result-3 : goal.overflow_add-result-3
overflow_add-result-3 c = let a = c.args in omega (arith, c.half_count.ensures, half_small a.state, c.half_count-2.ensures, half_small a.attributes)

pub returns : goal.returns
returns c = rw (c.half_count.ensures, c.half_count-2.ensures)
