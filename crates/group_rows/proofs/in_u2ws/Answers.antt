-- `in_u2ws` meets its contract: what every sub-state has.
use Rattle.transitions.specs.Table.{happened_in}
use Rattle.group_rows.proofs.in_u2ws.Goals as goal

pub returns : goal.returns
unfolding happened_in
returns c = rw (← c.staying-asked.ensures) c.in_sub_state.ensures
