-- `settings_values::read_classmark` meets its contract: each return is one law of `classmark_read`.
use mathlib.Core.Path.{◌∙◌}
use Rattle.settings_values.proofs.Values.{classmark-length, classmark-bad, classmark-good}
use Rattle.settings_values.proofs.read_classmark.Goals as goal

pub returns-then-text-ne6 : goal.returns-then-text-ne6
returns-then-text-ne6 c = classmark-length c.args.text.now c.if-text-ne6.true

pub returns-in_err-octets : goal.returns-in_err-octets
returns-in_err-octets c = c.from_residual.ensures ∙ classmark-bad _ c.if-text-ne6.false c.in_err-octets.ensures

pub returns : goal.returns
returns c = classmark-good _ c.if-text-ne6.false _ c.in_ok-octets.ensures
