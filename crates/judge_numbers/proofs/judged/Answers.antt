-- `judged` meets its contract: the part that is lent is the run.
use Rattle.judge_numbers.proofs.Verdicts.{judged-run}
use Rattle.judge_numbers.proofs.judged.Goals as goal

pub returns : goal.returns
returns c =
    let start = c.args in
    judged-run start.own start.settings.now start.log.now start.run.start start.run.count _ c.judge.ensures
