-- `mend_log` meets its contract: the settings are the octets'.
use Rattle.mend_numbers.proofs.Calls.{mended_call}
use Rattle.mend_numbers.proofs.mend_log.Goals as goal

pub returns : goal.returns
returns c =
    let start = c.args in
    mended_call start.settings.now start.log.now start.copy.now _ _ _ _ _ c.own_of-own.ensures c.identity_run-run.ensures.value
    c.mended-result.ensures c.mending_of.ensures
