-- `call_state_of` meets its contract, protocol by protocol.
use borrow.Author.Rules.{rules}
use Rattle.codes.specs.CallStates.{call_state_of}
use Rattle.codes.proofs.state.call_state_of.Goals as goal

pub returns-in-Broadcast : goal.returns-in-Broadcast
unfolding call_state_of
returns-in-Broadcast c = rw c.in-Broadcast.is c.broadcast_state.ensures

pub returns-in-Group : goal.returns-in-Group
unfolding call_state_of
returns-in-Group c = rw c.in-Group.is c.group_state.ensures
