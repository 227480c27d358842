-- `group_talk_fits` meets its contract: both parts.
use Rattle.fitness.specs.Fitness.{chooser_fit_by, pending_fit_by, talk_fit_by}
use Rattle.fitness.specs.Tables.{fitness_of}
use Rattle.version.specs.Version.{protocol_of}
use Rattle.fitness.proofs.group_talk_fits.Goals as goal

pub returns : goal.returns
unfolding talk_fit_by chooser_fit_by pending_fit_by fitness_of protocol_of
returns c = rw (c.chooser_fits-chosen.ensures, c.returning-from.ensures, c.pending_fits-pending.ensures)
