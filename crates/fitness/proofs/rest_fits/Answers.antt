-- `rest_fits` meets its contract.
use Rattle.fitness.proofs.rest_fits.Goals as goal

pub returns : goal.returns
returns c = rw (c.talk_fits-kept.ensures, c.remembered_fits-minded.ensures, c.timers_fit-timely.ensures)
