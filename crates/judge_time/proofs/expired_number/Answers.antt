-- The number of what ends is that of the definition by numbers.
use mathlib.Core.Path.{◌∙◌, ap}
use Rattle.timer.specs.Timers.{number_of_any}
use Rattle.timer.proofs.Numbers.{expired_by_number}
use Rattle.judge_time.proofs.expired_number.Goals as goal

pub returns : goal.returns
returns c = c.timer_number.ensures ∙ ap number_of_any c.expired_timer.ensures ∙ expired_by_number c.args.event
