-- `timers_after` meets its contract: one is stopped, then one is set.
use Rattle.call_step.proofs.timers_after.Goals as goal

pub returns : goal.returns
returns c = rw (c.with_timer.ensures, c.with_timer-stopped.ensures)
