-- `parameters_number` meets its contract: the definition's bits in its order.
use borrow.Author.Rules.{rules}
use Rattle.codes.specs.Attributes.{parameters_number}
use Rattle.codes.proofs.attributes.parameters_number.Goals as goal

pub returns : goal.returns
unfolding parameters_number
returns c = c.four_bits.ensures
