-- `occurred` meets its contract, protocol by protocol.
use mathlib.Core.Path.{sym, ◌∙◌}
use Rattle.transitions.proofs.InState.{happened_broadcast, happened-group}
use Rattle.event_rows.proofs.occurred.Goals as goal

pub returns-in-Broadcast : goal.returns-in-Broadcast
returns-in-Broadcast c = happened_broadcast _ _ _ _ (sym c.protocol.ensures ∙ c.in-Broadcast.is) c.happened.ensures

pub returns-in-Group : goal.returns-in-Group
returns-in-Group c = happened-group _ _ _ _ (sym c.protocol.ensures ∙ c.in-Group.is) c.happened-in-Group.ensures
