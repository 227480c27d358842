-- `digits_from` meets its contract: before each turn what is left gives the whole number.
use Rattle.std.proofs.Common.{arith, ◌≡◌, ◌∙◌, ◌<◌, ◌*◌, ◌+◌, ◌-◌}
use Rattle.text.proofs.Numbers.{number-on, number_below, number_above, number_past, number-done}
use Rattle.text.proofs.decimal.digits_from.Goals.{then-digit-lt48-via-then-digit-lt48, then-digit-lt48-via-else-digit-lt48+then-digit-gt57}
use Rattle.text.proofs.decimal.digits_from.Goals as goal

pub returns-then-digit-lt48-clause-value : goal.returns-then-digit-lt48-clause-value
returns-then-digit-lt48-clause-value c =
    elim c.then-digit-lt48.branch [
      | then-digit-lt48-via-then-digit-lt48 w ↦ number_below c.args.most c.loop-character.value c.args.text.now c.loop-character.character-index _ _ c.loop-character-test.true c.from-digit.ensures w.if-digit-lt48.true c.loop-character.invariant.1
      | then-digit-lt48-via-else-digit-lt48+then-digit-gt57 w ↦ number_above c.args.most c.loop-character.value c.args.text.now c.loop-character.character-index _ _ c.loop-character-test.true c.from-digit.ensures w.if-digit-lt48.false w.if-digit-gt57.true c.loop-character.invariant.1
    ]

pub returns-in_err-checked_mul-clause-value : goal.returns-in_err-checked_mul-clause-value
returns-in_err-checked_mul-clause-value c =
    let past : c.args.most < 10 * c.loop-character.value + (c.from-digit.result - 48) = omega (arith, c.in_err-checked_mul.ensures) in
    c.from_residual.ensures ∙ number_past c.args.most c.loop-character.value c.args.text.now c.loop-character.character-index _ _ c.loop-character-test.true c.from-digit.ensures c.if-digit-lt48.false c.if-digit-gt57.false past c.loop-character.invariant.1

pub returns-in_err-next-clause-value : goal.returns-in_err-next-clause-value
returns-in_err-next-clause-value c =
    let past : c.args.most < 10 * c.loop-character.value + (c.from-digit.result - 48) = omega (arith, c.in_ok-checked_mul.ensures, c.in_err-next.ensures) in
    c.from_residual-in_err-next.ensures ∙ number_past c.args.most c.loop-character.value c.args.text.now c.loop-character.character-index _ _ c.loop-character-test.true c.from-digit.ensures c.if-digit-lt48.false c.if-digit-gt57.false past c.loop-character.invariant.1

pub returns-then-most-next-clause-value : goal.returns-then-most-next-clause-value
returns-then-most-next-clause-value c =
    let past : c.args.most < 10 * c.loop-character.value + (c.from-digit.result - 48) = omega (arith, c.in_ok-checked_mul.ensures, c.in_ok-next.ensures) in
    number_past c.args.most c.loop-character.value c.args.text.now c.loop-character.character-index _ _ c.loop-character-test.true c.from-digit.ensures c.if-digit-lt48.false c.if-digit-gt57.false past c.loop-character.invariant.1

pub loop-character-preserved : goal.loop-character-preserved
loop-character-preserved c =
    let sum : c.in_ok-next.next ≡ 10 * c.loop-character.value + (c.from-digit.result - 48) = omega (arith, c.in_ok-checked_mul.ensures, c.in_ok-next.ensures) in
    (omega arith, rw sum (number-on c.args.most c.loop-character.value c.args.text.now c.loop-character.character-index _ _ c.loop-character-test.true c.from-digit.ensures c.if-digit-lt48.false c.if-digit-gt57.false (omega arith) c.loop-character.invariant.1))

pub returns-clause-value : goal.returns-clause-value
returns-clause-value c = number-done c.args.most c.loop-character.value c.args.text.now c.loop-character.character-index _ c.loop-character-test.false c.loop-character.invariant.1
