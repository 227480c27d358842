-- `reject_fits` meets its contract, protocol by protocol.
use Rattle.limits.specs.Limits.{reject_fits}
use Rattle.limits.proofs.reject_fits.Goals as goal

pub returns-in-Broadcast : goal.returns-in-Broadcast
unfolding reject_fits
returns-in-Broadcast c = rw c.in-Broadcast.is c.cause_fits.ensures

pub returns-in-Group : goal.returns-in-Group
unfolding reject_fits
returns-in-Group c = rw c.in-Group.is c.run_fits.ensures
