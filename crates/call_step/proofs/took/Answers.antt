-- `took` meets its contract: what was pending is sent; where nothing is, the context stays as it is.
use Rattle.call_step.proofs.Quiet.{took_still}
use Rattle.call_step.proofs.took.Goals as goal

pub returns-then-not-kept : goal.returns-then-not-kept
returns-then-not-kept c = took_still c.args.context (c.if-not-kept.true) _ _ _ (rw c.unsent-sent.ensures)

pub returns : goal.returns
returns c = rw (c.flushed-after.ensures, c.sent_in-sent.ensures)
