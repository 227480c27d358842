-- `put_row` meets its contract, message by message.
use lib.ListN.{length}
use mathlib.Core.Path.{refl, ◌∙◌}
use Rattle.reply.specs.Reply.{put_row}
use Rattle.reply.proofs.Putting.{setup_from, request_from, by-context, put_case}
use Rattle.reply.proofs.put_row.Goals as goal

pub returns-in-Nothing-clause-value : goal.returns-in-Nothing-clause-value
unfolding put_row
returns-in-Nothing-clause-value c =
    let a = c.args in
    (put_case (put_row a.protocol (length a.reply.now) a.own a.identity.now a.context) a.reply.now a.send _ _ _ _ c.in-Nothing.is refl (refl, refl)).0

pub returns-in-Nothing-clause-reply_after : goal.returns-in-Nothing-clause-reply_after
unfolding put_row
returns-in-Nothing-clause-reply_after c =
    let a = c.args in
    (put_case (put_row a.protocol (length a.reply.now) a.own a.identity.now a.context) a.reply.now a.send _ _ _ _ c.in-Nothing.is refl (refl, refl)).1

pub returns-in-ImmediateSetup-clause-value : goal.returns-in-ImmediateSetup-clause-value
unfolding put_row
returns-in-ImmediateSetup-clause-value c =
    let a = c.args in
    (put_case (put_row a.protocol (length a.reply.now) a.own a.identity.now a.context) a.reply.now a.send _ _ _ _ c.in-ImmediateSetup.is refl (c.put_immediate.ensures.value, c.put_immediate.ensures.reply_after)).0

pub returns-in-ImmediateSetup-clause-reply_after : goal.returns-in-ImmediateSetup-clause-reply_after
unfolding put_row
returns-in-ImmediateSetup-clause-reply_after c =
    let a = c.args in
    (put_case (put_row a.protocol (length a.reply.now) a.own a.identity.now a.context) a.reply.now a.send _ _ _ _ c.in-ImmediateSetup.is refl (c.put_immediate.ensures.value, c.put_immediate.ensures.reply_after)).1

pub returns-in-Setup-clause-value : goal.returns-in-Setup-clause-value
unfolding put_row
returns-in-Setup-clause-value c =
    let a = c.args in
    (put_case (put_row a.protocol (length a.reply.now) a.own a.identity.now a.context) a.reply.now a.send _ _ _ _ c.in-Setup.is (setup_from a.protocol _ a.identity.now _ _ ∙ by-context a.protocol _ a.context _ c.sender_of.ensures _) (c.put_message.ensures.value, c.put_message.ensures.reply_after)).0

pub returns-in-Setup-clause-reply_after : goal.returns-in-Setup-clause-reply_after
unfolding put_row
returns-in-Setup-clause-reply_after c =
    let a = c.args in
    (put_case (put_row a.protocol (length a.reply.now) a.own a.identity.now a.context) a.reply.now a.send _ _ _ _ c.in-Setup.is (setup_from a.protocol _ a.identity.now _ _ ∙ by-context a.protocol _ a.context _ c.sender_of.ensures _) (c.put_message.ensures.value, c.put_message.ensures.reply_after)).1

pub returns-in-TerminationRequest-clause-value : goal.returns-in-TerminationRequest-clause-value
unfolding put_row
returns-in-TerminationRequest-clause-value c =
    let a = c.args in
    (put_case (put_row a.protocol (length a.reply.now) a.own a.identity.now a.context) a.reply.now a.send _ _ _ _ c.in-TerminationRequest.is (request_from a.protocol _ a.identity.now _ _ ∙ by-context a.protocol _ a.context _ c.sender_of-in-TerminationRequest.ensures _) (c.put_message-in-TerminationRequest.ensures.value, c.put_message-in-TerminationRequest.ensures.reply_after)).0

pub returns-in-TerminationRequest-clause-reply_after : goal.returns-in-TerminationRequest-clause-reply_after
unfolding put_row
returns-in-TerminationRequest-clause-reply_after c =
    let a = c.args in
    (put_case (put_row a.protocol (length a.reply.now) a.own a.identity.now a.context) a.reply.now a.send _ _ _ _ c.in-TerminationRequest.is (request_from a.protocol _ a.identity.now _ _ ∙ by-context a.protocol _ a.context _ c.sender_of-in-TerminationRequest.ensures _) (c.put_message-in-TerminationRequest.ensures.value, c.put_message-in-TerminationRequest.ensures.reply_after)).1
