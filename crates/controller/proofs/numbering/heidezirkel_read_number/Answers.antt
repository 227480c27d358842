-- `heidezirkel_read_number` meets its contract: there is a number, or none.
use mathlib.Core.Path.{sym, ◌∙◌}
use Rattle.controller.specs.Numbering.{number_shown}
use Rattle.controller.proofs.numbering.heidezirkel_read_number.Goals as goal

pub returns-in-Some : goal.returns-in-Some
unfolding number_shown
returns-in-Some c = rw (sym c.read_number.ensures ∙ c.in-Some.is)

pub returns-in-None : goal.returns-in-None
unfolding number_shown
returns-in-None c = rw (sym c.read_number.ensures ∙ c.in-None.is)
