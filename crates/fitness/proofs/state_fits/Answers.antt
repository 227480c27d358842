-- `state_fits` meets its contract: both tests.
use Rattle.fitness.proofs.state_fits.Goals as goal

pub returns : goal.returns
returns c = rw (c.has_state-known.ensures, c.fits_state-consistent.ensures)
