-- `take_step` meets its contract: the octets are a context, or none.
use mathlib.Core.Path.{sym, ◌∙◌}
use Rattle.step_numbers.proofs.Steps.{call_is, call_none}
use Rattle.step_numbers.proofs.take_step.Goals as goal

-- They are the context `from`, and the step goes from it.
pub returns : goal.returns
returns c =
    let start = c.args in
    call_is start.table start.context.now start.settings.now start.reply.now start.event start.message.now _
    (sym c.read.ensures ∙ c.in-Some.is) _ _ _ c.step_from.ensures

-- They are none.
pub returns-in_default : goal.returns-in_default
returns-in_default c =
    let start = c.args in
    call_none start.table start.context.now start.settings.now start.reply.now start.event start.message.now
    (sym c.read.ensures ∙ c.in_default.is)
