-- `finished` meets its contract: its cases and its test are the definition's.
use Rattle.text.specs.Words.{finished_at}
use Rattle.text.proofs.words.finished.Goals as goal

pub returns-in-None : goal.returns-in-None
unfolding finished_at
returns-in-None c = rw c.in-None.is

pub returns-in-Some : goal.returns-in-Some
unfolding finished_at
returns-in-Some c = rw c.in-Some.is
