-- `is_out_of_range` meets its contract: each test is the definition's.
use Rattle.step_arguments.specs.Arguments.{out_of_range}
use Rattle.step_arguments.proofs.is_out_of_range.Goals as goal

pub returns : goal.returns
unfolding out_of_range
returns c = rw (← c.are_settings_out-settings.ensures)
