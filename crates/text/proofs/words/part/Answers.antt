-- `part` meets its contract: past the end, or there.
use native.Mathlib.Omega.{arith}
use Rattle.text.proofs.Parting.{part_none, part-there}
use Rattle.text.proofs.words.part.Goals as goal

pub returns-then-text-start : goal.returns-then-text-start
returns-then-text-start c = part_none c.args.text.now _ _ (omega arith)

pub returns-then-text-start-2 : goal.returns-then-text-start-2
returns-then-text-start-2 c = part_none c.args.text.now _ _ (omega arith)

pub returns : goal.returns
returns c = part-there c.args.text.now c.args.start c.args.count (omega arith)
