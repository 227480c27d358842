-- `put` meets its contract: what was pending stands behind what the row sends.
use Rattle.reply.proofs.Pending.{room-left, some-pending, none-pending}
use Rattle.reply.proofs.put.Goals as goal

pub put_pending-requires : goal.put_pending-requires
put_pending-requires c =
    let a = c.args in
    room-left a.protocol a.own a.identity.now a.octets.now a.reply.now a.context a.sends a.sent _ _ (c.put_own-count.ensures.value, c.put_own-count.ensures.reply_after)

pub returns-then-sent-clause-value : goal.returns-then-sent-clause-value
returns-then-sent-clause-value c =
    let a = c.args in
    (some-pending a.protocol a.own a.identity.now a.octets.now a.reply.now a.context a.sends a.sent _ _ (c.put_own-count.ensures.value, c.put_own-count.ensures.reply_after) _ _ (c.put_pending.ensures.value, c.put_pending.ensures.reply_after)).0

pub returns-then-sent-clause-reply_after : goal.returns-then-sent-clause-reply_after
returns-then-sent-clause-reply_after c =
    let a = c.args in
    (some-pending a.protocol a.own a.identity.now a.octets.now a.reply.now a.context a.sends a.sent _ _ (c.put_own-count.ensures.value, c.put_own-count.ensures.reply_after) _ _ (c.put_pending.ensures.value, c.put_pending.ensures.reply_after)).1

pub returns-clause-value : goal.returns-clause-value
returns-clause-value c =
    let a = c.args in
    (none-pending a.protocol a.own a.identity.now a.octets.now a.reply.now a.context a.sends a.sent c.if-sent.false _ _ (c.put_own-count.ensures.value, c.put_own-count.ensures.reply_after)).0

pub returns-clause-reply_after : goal.returns-clause-reply_after
returns-clause-reply_after c =
    let a = c.args in
    (none-pending a.protocol a.own a.identity.now a.octets.now a.reply.now a.context a.sends a.sent c.if-sent.false _ _ (c.put_own-count.ensures.value, c.put_own-count.ensures.reply_after)).1
