-- `asking` meets its contract: the blank message with an identity's place.
use Rattle.message_numbers.proofs.kinds.asking.Goals as goal

pub returns : goal.returns
returns c = rw (c.identity_place.ensures, c.blank.ensures)
