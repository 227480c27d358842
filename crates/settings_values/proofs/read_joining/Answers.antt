-- `settings_values::read_joining` meets its contract: the reader is told this timer's range.
use Rattle.settings_values.proofs.read_joining.Goals as goal

pub returns : goal.returns
returns c = c.read_milliseconds.ensures
