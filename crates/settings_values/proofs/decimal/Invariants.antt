-- `settings_values::decimal` meets its contract: before each turn the digits that are left, behind the number so far, give the whole answer.
use Prim.Native.Nat.{◌≤◌}
use mathlib.Core.Path.{◌≡◌}
use lib.ListN.{drop}
use Rattle.settings_values.specs.Values.{decimal_from, decimal_of}
use Rattle.settings_values.proofs.decimal.Given as goal

abbrev pub invariant-loop-byte : goal.invariant-loop-byte
invariant-loop-byte l = (l.number ≤ l.greatest) × (decimal_from l.greatest l.number (drop l.byte-index l.text) ≡ decimal_of l.greatest l.text)
