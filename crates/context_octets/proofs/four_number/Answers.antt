-- `four_number` meets its contract: each bit is 1 at most, so that the sum fits.
use native.Mathlib.Omega.{arith}
use Rattle.context_octets.proofs.Bits.{weight_fits, two_fit, three-fit, four-fit, four_same}
use Rattle.context_octets.proofs.four_number.Goals as goal

pub overflow_mul-result : goal.overflow_mul-result
overflow_mul-result c = record { fits = weight_fits 8 c.args.eight (omega arith) }

pub overflow_mul-result-2 : goal.overflow_mul-result-2
overflow_mul-result-2 c = record { fits = weight_fits 4 c.args.four (omega arith) }

pub overflow_add-result : goal.overflow_add-result
overflow_add-result c = record { fits = two_fit c.args.eight c.args.four }

pub overflow_mul-result-3 : goal.overflow_mul-result-3
overflow_mul-result-3 c = record { fits = weight_fits 2 c.args.two (omega arith) }

pub overflow_add-result-2 : goal.overflow_add-result-2
overflow_add-result-2 c = record { fits = three-fit c.args.eight c.args.four c.args.two }

pub overflow_add-result-3 : goal.overflow_add-result-3
overflow_add-result-3 c = record { fits = four-fit c.args.eight c.args.four c.args.two c.args.one }

pub returns : goal.returns
returns c = four_same c.args.eight c.args.four c.args.two c.args.one
