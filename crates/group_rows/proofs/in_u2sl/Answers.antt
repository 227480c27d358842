-- `in_u2sl` meets its contract: its own row, and what every sub-state has.
use borrow.Author.Tests.{eq-eqb, ne_eqb}
use Rattle.transitions.specs.Table.{happened_in}
use Rattle.group_rows.proofs.in_u2sl.Goals as goal

pub returns-then-number-eq-RECEIVE_MODE : goal.returns-then-number-eq-RECEIVE_MODE
unfolding happened_in
returns-then-number-eq-RECEIVE_MODE c = rw (eq-eqb _ _ c.if-number-eq-RECEIVE_MODE.true)

pub returns : goal.returns
unfolding happened_in
returns c = rw (ne_eqb _ _ c.if-number-eq-RECEIVE_MODE.false, ← c.staying-asked.ensures) c.in_sub_state.ensures
