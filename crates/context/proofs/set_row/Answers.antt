-- `set_row` meets its contract: the table's rows are the definition's, and a state's number is below their count.
use mathlib.Core.Path.{ap}
use native.Mathlib.Omega.{arith}
use Rattle.context.specs.Context.{set_row_at, set_row}
use Rattle.context.proofs.States.{state_below}
use Rattle.context.proofs.set_row.Goals as goal

pub offset_bounds-number : goal.offset_bounds-number
unfolding set_row
offset_bounds-number c = omega (arith, state_below c.args.state, c.state_number-number.ensures)

pub bounds-number-number : goal.bounds-number-number
unfolding set_row
bounds-number-number c = omega (arith, state_below c.args.state, c.state_number-number.ensures)

pub returns : goal.returns
unfolding set_row
returns c = ap set_row_at c.state_number-number.ensures
