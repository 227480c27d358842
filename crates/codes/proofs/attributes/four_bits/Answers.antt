-- `four_bits` meets its contract: each bit is at most its weight, so that the sum fits.
use borrow.Author.Rules.{rules}
use Prim.Native.Nat.{◌≤◌}
use native.Mathlib.Omega.{arith}
use Rattle.codes.proofs.Bits.{bit-most}
use Rattle.codes.proofs.attributes.four_bits.Goals as goal

-- Each bit is at most its weight.
most8 : (c : goal.After-bit-fourth) → c.bit-first.result ≤ 8
most8 c = bit-most _ 8 _ c.bit-first.ensures

most4 : (c : goal.After-bit-fourth) → c.bit-second.result ≤ 4
most4 c = bit-most _ 4 _ c.bit-second.ensures

most2 : (c : goal.After-bit-fourth) → c.bit-third.result ≤ 2
most2 c = bit-most _ 2 _ c.bit-third.ensures

most1 : (c : goal.After-bit-fourth) → c.bit-fourth.result ≤ 1
most1 c = bit-most _ 1 _ c.bit-fourth.ensures

pub overflow_add-result : goal.overflow_add-result
overflow_add-result c = omega (arith, most8 c, most4 c)

pub overflow_add-result-2 : goal.overflow_add-result-2
overflow_add-result-2 c = omega (arith, most8 c, most4 c, most2 c)

pub overflow_add-result-3 : goal.overflow_add-result-3
overflow_add-result-3 c = omega (arith, most8 c, most4 c, most2 c, most1 c)

pub returns : goal.returns
returns c = rw (← c.bit-first.ensures, ← c.bit-second.ensures, ← c.bit-third.ensures, ← c.bit-fourth.ensures)
