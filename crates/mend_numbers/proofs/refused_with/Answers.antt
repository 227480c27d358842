-- `refused_with` meets its contract.
use borrow.Author.Rules.{rules}
use Rattle.mend_numbers.specs.Numbers.{refused_with}
use Rattle.mend_numbers.proofs.refused_with.Goals as goal

pub returns : goal.returns
unfolding refused_with
returns c = search rules
