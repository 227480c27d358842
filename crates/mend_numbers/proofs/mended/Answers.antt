-- `mended` meets its contract: the part that is lent is the run.
use Rattle.mend_numbers.proofs.Calls.{mended_run}
use Rattle.mend_numbers.proofs.mended.Goals as goal

pub returns : goal.returns
returns c =
    let start = c.args in
    mended_run start.own start.settings.now start.log.now start.copy.now _ start.run.start start.run.count _ c.mend.ensures
