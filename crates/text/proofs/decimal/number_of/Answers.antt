-- `number_of` meets its contract: no text, a zero in front, or digits.
use Rattle.text.proofs.Numbers.{number-empty, number-zero, number_front, number-whole}
use Rattle.text.proofs.decimal.number_of.Goals as goal

pub returns-then-text-eq0-clause-value : goal.returns-then-text-eq0-clause-value
returns-then-text-eq0-clause-value c = number-empty c.args.text.now c.args.most c.if-text-eq0.true

pub returns-then-text-eq1-clause-value : goal.returns-then-text-eq1-clause-value
returns-then-text-eq1-clause-value c = number-zero c.args.text.now c.args.most c.if-text-eq48.true c.if-text-eq1.true

pub returns-then-text-eq48-clause-value : goal.returns-then-text-eq48-clause-value
returns-then-text-eq48-clause-value c = number_front c.args.text.now c.args.most c.if-text-eq0.false c.if-text-eq48.true c.if-text-eq1.false

pub returns-clause-value : goal.returns-clause-value
returns-clause-value c = number-whole c.args.text.now c.args.most _ c.if-text-eq0.false c.if-text-eq48.false c.digits_from.ensures.value
