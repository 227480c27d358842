-- `is_cleared` meets its contract: each test is the definition's.
use Rattle.fitness.specs.Fitness.{is_cleared}
use Rattle.fitness.proofs.is_cleared.Goals as goal

pub returns : goal.returns
unfolding is_cleared
returns c = rw (c.is_silent-silent.ensures, c.is_something-something.ensures, c.none_run-none_runs.ensures)
