-- `timers_at` meets its contract: each test is the definition's.
use mathlib.Core.Path.{refl}
use Rattle.context_octets.specs.Octets.{timers_at}
use Rattle.context_octets.proofs.timers_at.Goals as goal

pub returns : goal.returns
unfolding timers_at
returns c = refl
