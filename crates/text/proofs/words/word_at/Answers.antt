-- `word_at` meets its contract: its tests in order.
use Rattle.text.proofs.Parting.{word_past, word_empty, word_there}
use Rattle.text.proofs.words.word_at.Goals as goal

pub returns-then-line-at : goal.returns-then-line-at
returns-then-line-at c = word_past c.args.line.now _ c.if-line-at.true

pub returns-then-count-eq0 : goal.returns-then-count-eq0
returns-then-count-eq0 c = word_empty c.args.line.now _ _ c.if-line-at.false c.find-count.ensures.value c.if-count-eq0.true

pub returns : goal.returns
returns c = word_there c.args.line.now _ _ c.if-line-at.false c.find-count.ensures.value c.if-count-eq0.false
