-- `stepped` meets its contract: the part that is lent is the run.
use Rattle.step_numbers.proofs.Steps.{stepped-run}
use Rattle.step_numbers.proofs.stepped.Goals as goal

pub returns-clause-value : goal.returns-clause-value
returns-clause-value c =
    let start = c.args in
    let come = c.step_by.ensures in
    (stepped-run start.table start.own start.settings.now start.reply.now start.run.start start.run.count start.context start.event _ start.message.now
    c.happened_of-happened.ensures _ _ come.0 come.1).0

pub returns-clause-reply_after : goal.returns-clause-reply_after
returns-clause-reply_after c =
    let start = c.args in
    let come = c.step_by.ensures in
    (stepped-run start.table start.own start.settings.now start.reply.now start.run.start start.run.count start.context start.event _ start.message.now
    c.happened_of-happened.ensures _ _ come.0 come.1).1
