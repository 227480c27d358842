-- `put_own` meets its contract: what its row sends, or a STATUS.
use lib.ListN.{length}
use mathlib.Core.Path.{refl}
use Rattle.reply.specs.Reply.{put_of}
use Rattle.reply.proofs.Putting.{status-by, error_from, put_case}
use Rattle.reply.proofs.put_own.Goals as goal

pub returns-in-OfRow-clause-value : goal.returns-in-OfRow-clause-value
unfolding put_of
returns-in-OfRow-clause-value c =
    let a = c.args in
    (put_case (put_of a.protocol (length a.reply.now) a.own a.identity.now a.octets.now a.context) a.reply.now a.sends _ _ _ _ c.in-OfRow.is refl (c.put_row.ensures.value, c.put_row.ensures.reply_after)).0

pub returns-in-OfRow-clause-reply_after : goal.returns-in-OfRow-clause-reply_after
unfolding put_of
returns-in-OfRow-clause-reply_after c =
    let a = c.args in
    (put_case (put_of a.protocol (length a.reply.now) a.own a.identity.now a.octets.now a.context) a.reply.now a.sends _ _ _ _ c.in-OfRow.is refl (c.put_row.ensures.value, c.put_row.ensures.reply_after)).1

pub returns-in-Status-clause-value : goal.returns-in-Status-clause-value
unfolding put_of
returns-in-Status-clause-value c =
    let a = c.args in
    (put_case (put_of a.protocol (length a.reply.now) a.own a.identity.now a.octets.now a.context) a.reply.now a.sends _ _ _ _ c.in-Status.is (status-by a.protocol _ a.context _ c.sender_of.ensures _) (c.put_status.ensures.value, c.put_status.ensures.reply_after)).0

pub returns-in-Status-clause-reply_after : goal.returns-in-Status-clause-reply_after
unfolding put_of
returns-in-Status-clause-reply_after c =
    let a = c.args in
    (put_case (put_of a.protocol (length a.reply.now) a.own a.identity.now a.octets.now a.context) a.reply.now a.sends _ _ _ _ c.in-Status.is (status-by a.protocol _ a.context _ c.sender_of.ensures _) (c.put_status.ensures.value, c.put_status.ensures.reply_after)).1

pub returns-in-ErrorStatus-clause-value : goal.returns-in-ErrorStatus-clause-value
unfolding put_of
returns-in-ErrorStatus-clause-value c =
    let a = c.args in
    (put_case (put_of a.protocol (length a.reply.now) a.own a.identity.now a.octets.now a.context) a.reply.now a.sends _ _ _ _ c.in-ErrorStatus.is (error_from a.protocol _ a.octets.now a.context _ _ _ _ c.hearing.ensures c.sender_of-heard.ensures c.copy_count-count.ensures.value) (c.put_status-in-ErrorStatus.ensures.value, c.put_status-in-ErrorStatus.ensures.reply_after)).0

pub returns-in-ErrorStatus-clause-reply_after : goal.returns-in-ErrorStatus-clause-reply_after
unfolding put_of
returns-in-ErrorStatus-clause-reply_after c =
    let a = c.args in
    (put_case (put_of a.protocol (length a.reply.now) a.own a.identity.now a.octets.now a.context) a.reply.now a.sends _ _ _ _ c.in-ErrorStatus.is (error_from a.protocol _ a.octets.now a.context _ _ _ _ c.hearing.ensures c.sender_of-heard.ensures c.copy_count-count.ensures.value) (c.put_status-in-ErrorStatus.ensures.value, c.put_status-in-ErrorStatus.ensures.reply_after)).1
