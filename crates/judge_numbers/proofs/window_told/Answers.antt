-- `window_told` meets its contract: none are told, or those that are.
use Rattle.judge_numbers.specs.Judging.{window_told}
use Rattle.judge_numbers.proofs.window_told.Goals as goal

pub returns-in-Untold : goal.returns-in-Untold
unfolding window_told
returns-in-Untold c = rw c.in-Untold.is

pub returns-in-Told : goal.returns-in-Told
unfolding window_told
returns-in-Told c = rw c.in-Told.is
