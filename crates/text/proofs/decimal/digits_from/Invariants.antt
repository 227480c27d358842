-- `digits_from` meets its contract: before each turn what is left gives the whole number.
use Rattle.std.proofs.Common.{◌≡◌, ◌≤◌, drop}
use Rattle.text.specs.Decimal.{digits_from}
use Rattle.text.proofs.decimal.digits_from.Given as goal

abbrev pub invariant-loop-character : goal.invariant-loop-character
invariant-loop-character l = (l.value ≤ l.most) × (digits_from l.most l.value (drop l.character-index l.text) ≡ digits_from l.most 0 l.text)
