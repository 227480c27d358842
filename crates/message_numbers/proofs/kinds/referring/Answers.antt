-- `referring` meets its contract: the blank message with a reference and an originator indication.
use Rattle.message_numbers.proofs.kinds.referring.Goals as goal

pub returns : goal.returns
returns c = rw (c.four_of.ensures, c.blank.ensures)
