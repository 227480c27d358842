-- `left_with` meets its contract: no joining timer is left, no invitation timer, or some of both.
use borrow.Author.Tests.{lt-ltb, le-ltb}
use Rattle.judge_time.proofs.left_with.Goals as goal

pub returns-then-joining : goal.returns-then-joining
returns-then-joining c = rw (lt-ltb _ _ c.if-joining.true)

pub returns-then-invitation : goal.returns-then-invitation
returns-then-invitation c = rw (le-ltb _ _ c.if-joining.false, lt-ltb _ _ c.if-invitation.true)

pub returns : goal.returns
returns c = rw (le-ltb _ _ c.if-joining.false, le-ltb _ _ c.if-invitation.false)
