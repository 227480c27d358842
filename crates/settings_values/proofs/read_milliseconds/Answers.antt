-- `settings_values::read_milliseconds` meets its contract: each return is one law of `milliseconds_read`.
use mathlib.Core.Path.{sym, ◌∙◌}
use Rattle.settings_values.proofs.Values.{milliseconds-zero, milliseconds-none, milliseconds_under, milliseconds-good, zero-first, zero-not-first}
use Rattle.settings_values.proofs.read_milliseconds.Goals as goal

pub returns-then-starts_with : goal.returns-then-starts_with
returns-then-starts_with c = milliseconds-zero _ _ _ (zero-first c.args.text.now (sym c.starts_with.ensures.value ∙ c.if-starts_with.true))

pub returns-in_err-number : goal.returns-in_err-number
returns-in_err-number c = c.from_residual.ensures ∙ milliseconds-none _ _ _ c.in_err-number.ensures

pub returns-then-number-least : goal.returns-then-number-least
returns-then-number-least c = milliseconds_under _ _ _ _ c.in_ok-number.ensures c.if-number-least.true

pub returns : goal.returns
returns c = milliseconds-good _ _ _ _ c.in_ok-number.ensures (zero-not-first c.args.text.now (sym c.starts_with.ensures.value ∙ c.if-starts_with.false)) c.if-number-least.false
