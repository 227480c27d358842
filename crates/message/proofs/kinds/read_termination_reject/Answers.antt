-- `read_termination_reject` meets its contract, protocol by protocol.
use Rattle.message.specs.Reading.{termination_reject_of}
use Rattle.message.proofs.kinds.read_termination_reject.Goals as goal

pub returns-in-Broadcast : goal.returns-in-Broadcast
unfolding termination_reject_of
returns-in-Broadcast c = rw c.in-Broadcast.is c.read_counted_reject.ensures

pub returns-in-Group : goal.returns-in-Group
unfolding termination_reject_of
returns-in-Group c = rw c.in-Group.is c.whole.ensures
