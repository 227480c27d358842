-- `no_channel_in_u6` meets its contract: T_no channel is set unless running.
use Rattle.transitions.specs.Table.{happened_in}
use Rattle.event_rows.proofs.no_channel_in_u6.Goals as goal

pub returns-then-timers : goal.returns-then-timers
unfolding happened_in
returns-then-timers c = rw c.if-timers.true

pub returns : goal.returns
unfolding happened_in
returns c = rw c.if-timers.false
