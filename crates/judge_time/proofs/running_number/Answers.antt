-- The number of what runs is that of the definition by numbers.
use mathlib.Core.Path.{◌∙◌, ap}
use Rattle.timer.specs.Timers.{number_of_any}
use Rattle.timer.proofs.Numbers.{running_by_number}
use Rattle.judge_time.proofs.running_number.Goals as goal

pub returns : goal.returns
returns c = c.timer_number.ensures ∙ ap number_of_any c.running_timer.ensures ∙ running_by_number c.args.timers
