-- `caused` meets its contract: the blank message with a cause and two half octets.
use Rattle.message_numbers.proofs.kinds.caused.Goals as goal

pub returns : goal.returns
returns c = rw (c.place_of.ensures, c.optional_of.ensures, c.optional_of-2.ensures, c.blank.ensures)
