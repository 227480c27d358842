-- `is_talk` meets its contract: each test is the definition's.
use mathlib.Core.Path.{refl}
use Rattle.context_octets.specs.Octets.{is_talk}
use Rattle.context_octets.proofs.is_talk.Goals as goal

pub returns : goal.returns
unfolding is_talk
returns c = refl
