-- `sender_of` meets its contract: the flag is the opposite of the one expected.
use Rattle.reply.proofs.Putting.{opposite_sent}
use Rattle.reply.proofs.sender_of.Goals as goal

pub returns : goal.returns
returns c = opposite_sent c.args.context _ c.expected_flag-flag.ensures
