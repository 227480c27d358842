-- `refused_with` meets its contract: a message that is all zero.
use Rattle.message_numbers.proofs.refused_with.Goals as goal

pub returns : goal.returns
returns c = rw c.blank.ensures
