-- `bit` meets its contract, either way of its test.
use Rattle.codes.specs.Attributes.{weighs}
use Rattle.codes.proofs.attributes.bit.Goals as goal

pub returns-then-set : goal.returns-then-set
unfolding weighs
returns-then-set c = rw c.if-set.true

pub returns-else-set : goal.returns-else-set
unfolding weighs
returns-else-set c = rw c.if-set.false
