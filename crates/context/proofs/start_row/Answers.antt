-- `start_row` meets its contract: the table's rows are the definition's, and a state's number is below their count.
use mathlib.Core.Path.{ap}
use native.Mathlib.Omega.{arith}
use Rattle.context.specs.Context.{start_row_at, start_row}
use Rattle.context.proofs.States.{state_below}
use Rattle.context.proofs.start_row.Goals as goal

pub offset_bounds-number : goal.offset_bounds-number
unfolding start_row
offset_bounds-number c = omega (arith, state_below c.args.state, c.state_number-number.ensures)

pub bounds-number-number : goal.bounds-number-number
unfolding start_row
bounds-number-number c = omega (arith, state_below c.args.state, c.state_number-number.ensures)

pub returns : goal.returns
unfolding start_row
returns c = ap start_row_at c.state_number-number.ensures
