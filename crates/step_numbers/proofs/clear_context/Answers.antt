-- `clear_context` meets its contract.
use mathlib.Core.Path.{refl, ap, ◌∙◌}
use Rattle.context_octets.specs.Octets.{octets_of}
use Rattle.step_numbers.proofs.clear_context.Goals as goal

pub returns : goal.returns
returns c = (refl, c.write.ensures ∙ ap octets_of c.cleared.ensures)
