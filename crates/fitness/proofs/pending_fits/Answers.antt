-- `pending_fits` meets its contract: each test of the state is a list of states.
use Rattle.version.specs.Version.{protocol_of}
use Rattle.fitness.specs.Fitness.{pending_fit_by}
use Rattle.fitness.specs.Tables.{fitness_of}
use Rattle.fitness.proofs.pending_fits.Goals as goal

pub returns : goal.returns
unfolding pending_fit_by fitness_of protocol_of
returns c = rw (c.may_request-requesting.ensures, c.may_be_asked-asked.ensures, c.is_sub_state-within.ensures)
