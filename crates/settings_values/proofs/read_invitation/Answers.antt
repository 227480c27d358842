-- `settings_values::read_invitation` meets its contract: the reader is told this timer's range.
use Rattle.settings_values.proofs.read_invitation.Goals as goal

pub returns : goal.returns
returns c = c.read_milliseconds.ensures
