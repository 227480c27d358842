-- `timers_fit_u5` meets its contract.
use Rattle.fitness.specs.Fitness.{timers_fit_by}
use Rattle.fitness.specs.Tables.{fitness_of}
use Rattle.fitness.proofs.timers_fit_u5.Goals as goal

pub returns : goal.returns
unfolding timers_fit_by fitness_of
returns c = rw c.term_fits-term.ensures
