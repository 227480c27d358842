-- `judge_log` meets its contract: the settings are the octets', and the verdict's timers fit.
use Rattle.judge_numbers.proofs.Verdicts.{judged_call, judged-timed}
use Rattle.judge_numbers.proofs.judge_log.Goals as goal

pub judgement_of-requires : goal.judgement_of-requires
judgement_of-requires c = judged-timed _ _ _ _ c.judged.ensures

pub returns : goal.returns
returns c =
    let start = c.args in
    judged_call start.settings.now start.log.now _ _ _ _ c.own_of-own.ensures c.identity_run-run.ensures.value
    c.judged.ensures c.judgement_of.ensures
