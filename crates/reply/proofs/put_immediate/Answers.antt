-- `put_immediate` meets its contract: the identity is the whole of its source.
use mathlib.Core.Path.{◌∙◌}
use Rattle.reply.proofs.Putting.{immediate_from, by-context, put_as}
use Rattle.reply.proofs.put_immediate.Goals as goal

pub returns-clause-value : goal.returns-clause-value
returns-clause-value c =
    let a = c.args in
    (put_as _ _ _ _ _
    (immediate_from a.protocol _ a.identity.now _ _ _ _ ∙ by-context a.protocol _ a.context _ c.sender_of-sender.ensures _)
    (c.put_message.ensures.value, c.put_message.ensures.reply_after)).0

pub returns-clause-reply_after : goal.returns-clause-reply_after
returns-clause-reply_after c =
    let a = c.args in
    (put_as _ _ _ _ _
    (immediate_from a.protocol _ a.identity.now _ _ _ _ ∙ by-context a.protocol _ a.context _ c.sender_of-sender.ensures _)
    (c.put_message.ensures.value, c.put_message.ensures.reply_after)).1
