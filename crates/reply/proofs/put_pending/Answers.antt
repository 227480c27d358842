-- `put_pending` meets its contract: one message behind the other.
use Rattle.reply.proofs.Pending.{stands-within, both_pending}
use Rattle.reply.proofs.put_pending.Goals as goal

pub put_due-requires : goal.put_due-requires
put_due-requires c =
    let a = c.args in
    stands-within a.reply.now a.at _ _ _ c.requires (c.put_due-behind.ensures.value, c.put_due-behind.ensures.reply_after)

pub returns-clause-value : goal.returns-clause-value
returns-clause-value c =
    let a = c.args in
    (both_pending a.protocol a.context a.sent a.reply.now a.at _ c.status_telling-status.ensures _ _ (c.put_due-behind.ensures.value, c.put_due-behind.ensures.reply_after) _ _ (c.put_due.ensures.value, c.put_due.ensures.reply_after)).0

pub returns-clause-reply_after : goal.returns-clause-reply_after
returns-clause-reply_after c =
    let a = c.args in
    (both_pending a.protocol a.context a.sent a.reply.now a.at _ c.status_telling-status.ensures _ _ (c.put_due-behind.ensures.value, c.put_due-behind.ensures.reply_after) _ _ (c.put_due.ensures.value, c.put_due.ensures.reply_after)).1
