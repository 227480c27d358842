-- `write` meets its contract: a state's number fits an octet, and every octet is stored.
use native.Mathlib.Omega.{arith}
use Rattle.context.proofs.States.{state_below}
use Rattle.context_octets.specs.Octets.{octets_of}
use Rattle.context_octets.proofs.write.Goals as goal

pub overflow_cast-number : goal.overflow_cast-number
unfolding octets_of
overflow_cast-number c = omega (arith, state_below c.args.context.state, c.state_number-number.ensures)

pub returns : goal.returns
unfolding octets_of
returns c = rw (c.talk_number-talks.ensures, c.remembered_number-noted.ensures, c.timers_number-timers.ensures, c.parameters_number-parameters.ensures, c.state_number-number.ensures)
