-- `is_untimely` meets its contract, straight from the timers' numbers and the timer's length.
use Rattle.judge_time.specs.Clock.{untimely_at}
use Rattle.judge_time.proofs.is_untimely.Goals as goal

pub returns : goal.returns
unfolding untimely_at
returns c = rw (c.timer_number-joining.ensures, c.timer_number-invitation.ensures, c.timer_length-length.ensures)
