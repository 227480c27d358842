-- `noted` meets its contract, note by note.
use Rattle.call.specs.Talk.{noted}
use Rattle.talk.proofs.noted.Goals as goal

pub returns-in-Nothing : goal.returns-in-Nothing
unfolding noted
returns-in-Nothing c = rw c.in-Nothing.is

pub returns-in-WeChose : goal.returns-in-WeChose
unfolding noted
returns-in-WeChose c = rw (c.chosen_by.ensures, c.in-WeChose.is)

pub returns-in-CellChose : goal.returns-in-CellChose
unfolding noted
returns-in-CellChose c = rw (c.chosen_by-in-CellChose.ensures, c.in-CellChose.is)

pub returns-in-TerminationPends : goal.returns-in-TerminationPends
unfolding noted
returns-in-TerminationPends c = rw (c.pending.ensures, c.in-TerminationPends.is)

pub returns-in-StatusPends : goal.returns-in-StatusPends
unfolding noted
returns-in-StatusPends c = rw (c.pending-in-StatusPends.ensures, c.in-StatusPends.is)

pub returns-in-TerminationDropped : goal.returns-in-TerminationDropped
unfolding noted
returns-in-TerminationDropped c = rw (c.pending-in-TerminationDropped.ensures, c.in-TerminationDropped.is)
