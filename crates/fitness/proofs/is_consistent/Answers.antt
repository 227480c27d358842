-- `is_consistent` meets its contract: a state asks about two of the parameters.
use mathlib.Core.Path.{sym, ◌∙◌}
use Rattle.fitness.proofs.Consistent.{by_two}
use Rattle.fitness.proofs.is_consistent.Goals as goal

pub returns : goal.returns
returns c = c.fits_state.ensures ∙ sym (by_two _ c.args.state c.args.parameters)
