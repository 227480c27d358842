-- `timers_number` meets its contract, with T_pres and without.
use native.Mathlib.Omega.{arith}
use Rattle.context_octets.proofs.Bits.{four-most, with_sixteen, without_sixteen}
use Rattle.context_octets.proofs.timers_number.Goals as goal

pub overflow_add-result : goal.overflow_add-result
overflow_add-result c =
    let t = c.args.timers in
    omega (arith, four-most t.mmest t.term t.connreq t.nochannel, c.four_number-four.ensures)

pub returns-then-timers : goal.returns-then-timers
returns-then-timers c = with_sixteen _ _ c.four_number-four.ensures c.if-timers.true

pub returns : goal.returns
returns c = without_sixteen _ _ c.four_number-four.ensures c.if-timers.false
