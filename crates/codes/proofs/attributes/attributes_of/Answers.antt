-- `attributes_of` meets its contract: the definition's bits in its order.
use borrow.Author.Rules.{rules}
use Rattle.codes.specs.Attributes.{attributes_of}
use Rattle.codes.proofs.attributes.attributes_of.Goals as goal

pub returns : goal.returns
unfolding attributes_of
returns c = c.four_bits.ensures
