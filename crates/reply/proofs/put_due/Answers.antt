-- `put_due` meets its contract: not due, or put into the part behind the first octets, where the part has room.
use mathlib.Core.Bool.{not}
use mathlib.Core.List.{[], ◌∷◌}
use mathlib.Core.Path.{ap}
use native.Mathlib.Omega.{arith}
use Rattle.reply.proofs.Pending.{not_due, due_put, due_within}
use Rattle.reply.proofs.put_due.Goals as goal

pub returns-clause-reply_after : goal.returns-clause-reply_after
returns-clause-reply_after c =
    let a = c.args in
    (due_put a.protocol (158 ∷ []) a.context a.message a.reply.now a.at a.due (ap not c.if-not-due.false) c.requires _ c.sender_of-sender.ensures _ c.put.ensures.value _ c.unwrap_or-count.ensures _ c.put.ensures.part_after).1

pub returns-clause-value : goal.returns-clause-value
returns-clause-value c =
    let a = c.args in
    (due_put a.protocol (158 ∷ []) a.context a.message a.reply.now a.at a.due (ap not c.if-not-due.false) c.requires _ c.sender_of-sender.ensures _ c.put.ensures.value _ c.unwrap_or-count.ensures _ c.put.ensures.part_after).0

pub overflow_add-result : goal.overflow_add-result
overflow_add-result c =
    let a = c.args in
    omega (arith, due_within a.protocol (158 ∷ []) a.context a.message a.reply.now a.at a.due (ap not c.if-not-due.false) c.requires _ c.sender_of-sender.ensures _ c.put.ensures.value _ c.unwrap_or-count.ensures _ c.put.ensures.part_after)

pub returns-then-not-due-clause-reply_after : goal.returns-then-not-due-clause-reply_after
returns-then-not-due-clause-reply_after c =
    let a = c.args in
    (not_due a.protocol (158 ∷ []) a.context a.message a.reply.now a.at a.due (ap not c.if-not-due.true)).1

pub returns-then-not-due-clause-value : goal.returns-then-not-due-clause-value
returns-then-not-due-clause-value c =
    let a = c.args in
    (not_due a.protocol (158 ∷ []) a.context a.message a.reply.now a.at a.due (ap not c.if-not-due.true)).0
