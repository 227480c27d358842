-- `next_word` meets its contract: nowhere there is none, and at a place it is the word there.
use Rattle.text.specs.Words.{next_from}
use Rattle.text.proofs.words.next_word.Goals as goal

pub returns-in-None : goal.returns-in-None
unfolding next_from
returns-in-None c = rw c.in-None.is

pub returns-in-Some : goal.returns-in-Some
unfolding next_from
returns-in-Some c = rw (c.in-Some.is, c.word_at.ensures)
