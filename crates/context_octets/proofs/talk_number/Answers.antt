-- `talk_number` meets its contract: each bit is 1 at most, so that the sum fits.
use native.Mathlib.Omega.{arith}
use Rattle.context_octets.proofs.Bits.{weight_fits, awaited_fit, pending-fit, talk_fit, talk_same}
use Rattle.context_octets.proofs.talk_number.Goals as goal

pub overflow_mul-result : goal.overflow_mul-result
overflow_mul-result c = record { fits = weight_fits 16 c.args.talk.awaiting (omega arith) }

pub overflow_mul-result-2 : goal.overflow_mul-result-2
overflow_mul-result-2 c = record { fits = weight_fits 8 c.args.talk.status (omega arith) }

pub overflow_add-result : goal.overflow_add-result
overflow_add-result c = let k = c.args.talk in record { fits = awaited_fit k.awaiting k.status }

pub overflow_mul-result-3 : goal.overflow_mul-result-3
overflow_mul-result-3 c = record { fits = weight_fits 4 c.args.talk.termination (omega arith) }

pub overflow_add-result-2 : goal.overflow_add-result-2
overflow_add-result-2 c = let k = c.args.talk in record { fits = pending-fit k.awaiting k.status k.termination }

pub overflow_add-result-3 : goal.overflow_add-result-3
overflow_add-result-3 c = record { fits = talk_fit c.args.talk _ c.chooser_number-chooser.ensures }

pub returns : goal.returns
returns c = talk_same c.args.talk _ c.chooser_number-chooser.ensures
