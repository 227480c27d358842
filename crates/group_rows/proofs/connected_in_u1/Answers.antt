-- `connected_in_u1` meets its contract: by whether T_MM-est runs.
use Rattle.transitions.specs.Table.{heard_in}
use Rattle.group_rows.proofs.connected_in_u1.Goals as goal

pub returns-then-timers : goal.returns-then-timers
unfolding heard_in
returns-then-timers c = rw c.if-timers.true

pub returns : goal.returns
unfolding heard_in
returns c = rw c.if-timers.false
