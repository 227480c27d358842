-- `setting` meets its contract: the blank message with the attributes' value.
use Rattle.message_numbers.proofs.kinds.setting.Goals as goal

pub returns : goal.returns
returns c = rw c.blank.ensures
