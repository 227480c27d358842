-- `immediate` meets its contract: the blank message with the fields of table 8.3.
use Rattle.message_numbers.proofs.kinds.immediate.Goals as goal

pub returns : goal.returns
returns c = rw (c.three_of.ensures, c.place_of.ensures, c.four_of.ensures, c.blank.ensures)
