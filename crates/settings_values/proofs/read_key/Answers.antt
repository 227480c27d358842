-- `settings_values::read_key` meets its contract: each return is one law of `key_read`.
use native.Mathlib.Omega.{arith}
use mathlib.Core.Path.{◌∙◌}
use Rattle.settings_values.proofs.Values.{key-length, key-none, key_over, key-good}
use Rattle.settings_values.proofs.read_key.Goals as goal

pub returns-in_default : goal.returns-in_default
returns-in_default c = key-length c.args.text.now (λ e. omega arith)

pub returns-in_default-2 : goal.returns-in_default-2
returns-in_default-2 c = key-length c.args.text.now (λ e. omega arith)

pub returns-in_err-number : goal.returns-in_err-number
returns-in_err-number c = c.from_residual.ensures ∙ key-none c.args.text.now (omega arith) c.in_err-number.ensures

pub returns-then-number-ge8 : goal.returns-then-number-ge8
returns-then-number-ge8 c = key_over _ c.args.text.now (omega arith) c.in_ok-number.ensures c.if-number-ge8.true

pub returns : goal.returns
returns c = key-good _ c.args.text.now (omega arith) c.in_ok-number.ensures c.if-number-ge8.false
