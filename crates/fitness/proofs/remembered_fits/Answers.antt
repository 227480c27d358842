-- `remembered_fits` meets its contract.
use mathlib.Core.Path.{◌∙◌, sym}
use Rattle.fitness.specs.Fitness.{remembered_fit_by}
use Rattle.fitness.specs.Tables.{fitness_of}
use Rattle.fitness.proofs.remembered_fits.Goals as goal

pub returns-then-remembers : goal.returns-then-remembers
unfolding remembered_fit_by fitness_of
returns-then-remembers c =
    rw (
      sym c.remembers.ensures ∙ c.if-remembers.true,
      c.is_something-something.ensures,
      c.has_state-known.ensures,
      c.returning-from.ensures,
    )

pub returns : goal.returns
unfolding remembered_fit_by fitness_of
returns c = rw (sym c.remembers.ensures ∙ c.if-remembers.false, c.is_something-something.ensures)
