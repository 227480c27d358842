-- `settings_values::hex_octets` meets its contract: before each turn the digits that are left, read into the octets so far, give the whole answer.
use mathlib.Core.Path.{refl, sym, ◌∙◌}
use native.Mathlib.Omega.{arith}
use lib.ListN.{length-set}
use Rattle.settings_values.specs.Values.{hex_of}
use Rattle.settings_values.proofs.Digits.{digit_some, hex_next, hex_high, hex_low, hex_end, hex_full}
use Rattle.settings_values.proofs.hex_octets.Goals as goal

pub loop-place-init : goal.loop-place-init
unfolding hex_of
loop-place-init c = (omega arith, refl, refl)

pub returns-then-text-place : goal.returns-then-text-place
returns-then-text-place c =
    let l = c.loop-place in
    sym (hex_end l.octets l.place c.args.text.now c.if-text-place.true) ∙ l.invariant.2

pub returns-in_err-high : goal.returns-in_err-high
returns-in_err-high c =
    let l = c.loop-place in
    c.from_residual.ensures ∙ hex_high l.octets l.place c.args.text.now (omega arith) (omega arith) c.in_err-high.ensures ∙ l.invariant.2

pub returns-in_err-low : goal.returns-in_err-low
returns-in_err-low c =
    let l = c.loop-place in
    c.from_residual-in_err-low.ensures ∙ hex_low l.octets l.place c.args.text.now (omega arith) (omega arith) c.in_err-low.ensures ∙ l.invariant.2

pub overflow_mul-octets : goal.overflow_mul-octets
overflow_mul-octets c = omega (arith, (digit_some _ _ c.in_ok-high.ensures).1)

pub overflow_add-octets : goal.overflow_add-octets
overflow_add-octets c = omega (arith, (digit_some _ _ c.in_ok-high.ensures).1, (digit_some _ _ c.in_ok-low.ensures).1)

pub loop-place-preserved : goal.loop-place-preserved
loop-place-preserved c =
    let l = c.loop-place in (
      omega arith,
      simp length-set l.invariant.1,
      sym (hex_next l.octets l.place c.args.text.now (omega arith) (omega arith) _ _ c.in_ok-high.ensures c.in_ok-low.ensures) ∙ l.invariant.2,
    )

pub returns : goal.returns
returns c = let l = c.loop-place in sym (hex_full l.octets l.place _ (omega arith)) ∙ l.invariant.2
