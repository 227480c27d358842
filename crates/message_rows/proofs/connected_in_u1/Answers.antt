-- `connected_in_u1` meets its contract, with T_MM-est and without.
use Rattle.transitions.specs.Table.{heard_in}
use Rattle.message_rows.proofs.connected_in_u1.Goals as goal

pub returns-then-timers : goal.returns-then-timers
unfolding heard_in
returns-then-timers c = rw c.if-timers.true

pub returns : goal.returns
unfolding heard_in
returns c = rw c.if-timers.false
