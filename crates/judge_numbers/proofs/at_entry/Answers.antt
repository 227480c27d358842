-- `at_entry` meets its contract.
use borrow.Author.Rules.{rules}
use Rattle.judge_numbers.specs.Judging.{at_entry}
use Rattle.judge_numbers.proofs.at_entry.Goals as goal

pub returns : goal.returns
unfolding at_entry
returns c = search rules
