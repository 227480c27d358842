-- `step_by_lem` meets its contract: a refusal, or what the event comes to with its reply.
use mathlib.Core.Path.{◌∙◌}
use Rattle.radio.proofs.Reacting.{is_refused, is_taken}
use Rattle.radio.proofs.step_by.Goals as goal

pub returns-then-answer-ne0 : goal.returns-then-answer-ne0
returns-then-answer-ne0 c =
    let p = is_refused c.args.table c.args.own c.args.identity.now c.args.reply.now c.args.context c.args.happened c.args.octets.now _ c.refusal-answer.ensures c.if-answer-ne0.true in
    (c.refused.ensures ∙ p.0, p.1)

pub returns : goal.returns
returns c = is_taken c.args.table c.args.own c.args.identity.now c.args.reply.now c.args.context c.args.happened c.args.octets.now _ c.refusal-answer.ensures c.if-answer-ne0.false _ _ c.take.ensures
