-- `put_message` meets its contract: the writer's answer and what it leaves.
use Rattle.reply.proofs.Putting.{put_count, put_leaves_lem}
use Rattle.reply.proofs.put_message.Goals as goal

pub returns-clause-value : goal.returns-clause-value
returns-clause-value c =
    let a = c.args in
    put_count a.protocol a.reply.now a.source.now a.sender a.message _ _ c.write.ensures.value c.unwrap_or.ensures

pub returns-clause-reply_after : goal.returns-clause-reply_after
returns-clause-reply_after c =
    let a = c.args in
    put_leaves_lem a.protocol a.reply.now a.source.now a.sender a.message _ c.write.ensures.buffer_after
