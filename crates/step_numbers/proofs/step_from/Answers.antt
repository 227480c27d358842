-- `step_from` meets its contract: the settings are the octets', and the context afterwards is written.
use Rattle.step_numbers.proofs.Steps.{call_from_lem}
use Rattle.step_numbers.proofs.step_from.Goals as goal

pub returns : goal.returns
returns c =
    let start = c.args in
    call_from_lem start.table start.settings.now start.reply.now start.from start.event start.message.now _ _ c.own_of-own.ensures
    c.identity_run-run.ensures.value _ _ c.stepped-come.ensures.value c.stepped-come.ensures.reply_after _ c.write.ensures _ c.step_shown.ensures
