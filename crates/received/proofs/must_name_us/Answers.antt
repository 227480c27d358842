-- `must_name_us` meets its contract.
use Rattle.received.proofs.must_name_us.Goals as goal

pub returns-in-Broadcast : goal.returns-in-Broadcast
returns-in-Broadcast c = rw c.in-Broadcast.is

pub returns-in-Group : goal.returns-in-Group
returns-in-Group c = rw c.in-Group.is
