-- `read_file` meets its contract: the file is taken, or refused.
use Rattle.settings_numbers.specs.Configuring.{kept_octets, settings_shown}
use Rattle.settings_numbers.proofs.read_file.Goals as goal

pub returns-in-Ok-clause-value : goal.returns-in-Ok-clause-value
unfolding settings_shown
returns-in-Ok-clause-value c = rw (← c.in-Ok.ensures)

pub returns-in-Ok-clause-settings_after : goal.returns-in-Ok-clause-settings_after
unfolding kept_octets
returns-in-Ok-clause-settings_after c = rw (← c.in-Ok.ensures) c.write.ensures

pub returns-in-Err-clause-value : goal.returns-in-Err-clause-value
unfolding settings_shown
returns-in-Err-clause-value c = rw (← c.in-Err.ensures, c.fault_number.ensures)

pub returns-in-Err-clause-settings_after : goal.returns-in-Err-clause-settings_after
unfolding kept_octets
returns-in-Err-clause-settings_after c = rw (← c.in-Err.ensures)
