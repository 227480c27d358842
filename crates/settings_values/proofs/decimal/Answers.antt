-- `settings_values::decimal` meets its contract: before each turn the digits that are left, behind the number so far, give the whole answer.
use mathlib.Core.Path.{refl, sym, ◌∙◌}
use native.Mathlib.Omega.{arith}
use Rattle.settings_values.specs.Values.{decimal_of}
use Rattle.settings_values.proofs.Digits.{decimal_none, decimal_next, decimal_bad, decimal_over, decimal_end}
use Rattle.settings_values.proofs.decimal.Goals as goal

pub loop-byte-init : goal.loop-byte-init
unfolding decimal_of
loop-byte-init c = (omega arith, refl)

pub returns-in_err-digit : goal.returns-in_err-digit
returns-in_err-digit c =
    let l = c.loop-byte in
    c.from_residual.ensures ∙ decimal_none _ l.number l.byte-index c.args.text.now (omega arith) c.in_err-digit.ensures ∙ l.invariant.1

pub returns-then-digit-ge10 : goal.returns-then-digit-ge10
returns-then-digit-ge10 c =
    let l = c.loop-byte in
    decimal_bad _ l.number l.byte-index c.args.text.now (omega arith) _ c.in_ok-digit.ensures c.if-digit-ge10.true ∙ l.invariant.1

pub returns-then-greatest-number : goal.returns-then-greatest-number
returns-then-greatest-number c =
    let l = c.loop-byte in
    decimal_over _ l.number l.byte-index c.args.text.now (omega arith) _ c.in_ok-digit.ensures c.if-digit-ge10.false c.if-greatest-number.true
    ∙ l.invariant.1

pub loop-byte-preserved : goal.loop-byte-preserved
loop-byte-preserved c =
    let l = c.loop-byte in (
      omega arith,
      sym (decimal_next _ l.number l.byte-index c.args.text.now (omega arith) _ c.in_ok-digit.ensures c.if-digit-ge10.false) ∙ l.invariant.1,
    )

pub returns : goal.returns
returns c =
    let l = c.loop-byte in
    sym (decimal_end _ l.number l.byte-index c.args.text.now (omega arith) (omega arith)) ∙ l.invariant.1
