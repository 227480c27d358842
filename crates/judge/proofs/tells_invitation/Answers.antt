-- `tells_invitation` meets its contract, table by table.
use Rattle.verdict.specs.Table.{tells_invitation}
use Rattle.judge.proofs.tells_invitation.Goals as goal

pub returns-in-First : goal.returns-in-First
unfolding tells_invitation
returns-in-First c = rw c.in-First.is

pub returns-in-Second : goal.returns-in-Second
unfolding tells_invitation
returns-in-Second c = rw c.in-Second.is

pub returns-in-Third : goal.returns-in-Third
unfolding tells_invitation
returns-in-Third c = rw c.in-Third.is

pub returns-in-Group : goal.returns-in-Group
unfolding tells_invitation
returns-in-Group c = rw c.in-Group.is
