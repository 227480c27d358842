-- `put_status` meets its contract: the source holds the cause octets, so what is written is the STATUS with them.
use Prim.Native.Nat.{ℕ, ◌+◌, ◌%◌}
use lib.ListN.{replicate, length-replicate}
use Rattle.reply.proofs.Putting.{cause_length, status_from, put_as}
use Rattle.reply.proofs.put_status.Goals as goal

pub returns-clause-value : goal.returns-clause-value
returns-clause-value c =
    let a = c.args in
    (put_as _ _ _ _ _
    (status_from a.protocol _ _ a.sender (replicate {A = ℕ} 246 0) _ a.count c.copy_behind.ensures (length-replicate {A = ℕ} 246 0) (cause_length (128 + a.cause % 128) a.octets.now a.count c.requires.1) c.requires.0 _ c.status_telling-message.ensures)
    (c.put_message.ensures.value, c.put_message.ensures.reply_after)).0

pub returns-clause-reply_after : goal.returns-clause-reply_after
returns-clause-reply_after c =
    let a = c.args in
    (put_as _ _ _ _ _
    (status_from a.protocol _ _ a.sender (replicate {A = ℕ} 246 0) _ a.count c.copy_behind.ensures (length-replicate {A = ℕ} 246 0) (cause_length (128 + a.cause % 128) a.octets.now a.count c.requires.1) c.requires.0 _ c.status_telling-message.ensures)
    (c.put_message.ensures.value, c.put_message.ensures.reply_after)).1
