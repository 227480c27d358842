-- `half_at` meets its contract.
use mathlib.Core.Path.{ap, ◌∙◌}
use Rattle.message.specs.Reading.{half_found, half_at}
use Rattle.message.proofs.kinds.half_at.Goals as goal

pub returns-in_err-identifier : goal.returns-in_err-identifier
unfolding half_at
returns-in_err-identifier c = c.from_residual.ensures ∙ ap half_found c.in_err-identifier.ensures

pub returns : goal.returns
unfolding half_at
returns c = ap half_found c.in_ok-identifier.ensures
