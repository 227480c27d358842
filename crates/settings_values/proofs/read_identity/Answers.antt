-- `settings_values::read_identity` meets its contract: each return is one law of `identity_read`.
use mathlib.Core.Path.{◌∙◌}
use Rattle.settings_values.proofs.Values.{identity_under, identity_over, identity_odd, identity-bad, identity-good}
use Rattle.settings_values.proofs.read_identity.Goals as goal

pub returns-then-text-lt2 : goal.returns-then-text-lt2
returns-then-text-lt2 c = identity_under c.args.text.now c.if-text-lt2.true

pub returns-then-text-gt16 : goal.returns-then-text-gt16
returns-then-text-gt16 c = identity_over c.args.text.now c.if-text-gt16.true

pub returns-then-text-ne0 : goal.returns-then-text-ne0
returns-then-text-ne0 c = identity_odd c.args.text.now c.if-text-ne0.true

pub returns-in_err-octets : goal.returns-in_err-octets
returns-in_err-octets c = c.from_residual.ensures ∙ identity-bad _ c.if-text-lt2.false c.if-text-gt16.false c.if-text-ne0.false c.in_err-octets.ensures

pub returns : goal.returns
returns c = identity-good _ c.if-text-lt2.false c.if-text-gt16.false c.if-text-ne0.false _ c.in_ok-octets.ensures
