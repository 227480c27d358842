-- `told_by` meets its contract: the version says no table, its table does not tell the invitation timers, or it does.
use mathlib.Core.Path.{sym, ◌∙◌}
use Rattle.verdict.specs.Judge.{invitation_told}
use Rattle.judge.specs.Answer.{told_by}
use Rattle.judge.proofs.told_by.Goals as goal

pub returns-in_default : goal.returns-in_default
unfolding told_by invitation_told
returns-in_default c = rw c.in_default.is

pub returns-then-not-tells_invitation : goal.returns-then-not-tells_invitation
unfolding told_by invitation_told
returns-then-not-tells_invitation c = rw (c.in-Some.is, sym c.tells_invitation.ensures ∙ c.if-not-tells_invitation.true)

pub returns : goal.returns
unfolding told_by invitation_told
returns c = rw (c.in-Some.is, sym c.tells_invitation.ensures ∙ c.if-not-tells_invitation.false)
