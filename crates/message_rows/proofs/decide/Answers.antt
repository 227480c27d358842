-- `decide` meets its contract, protocol by protocol.
use mathlib.Core.Path.{sym, ◌∙◌}
use Rattle.transitions.proofs.InState.{heard_broadcast, heard-group}
use Rattle.message_rows.proofs.decide.Goals as goal

pub returns-in-Broadcast : goal.returns-in-Broadcast
returns-in-Broadcast c = heard_broadcast _ _ _ _ _ (sym c.protocol.ensures ∙ c.in-Broadcast.is) c.heard.ensures

pub returns-in-Group : goal.returns-in-Group
returns-in-Group c = heard-group _ _ _ _ _ (sym c.protocol.ensures ∙ c.in-Group.is) c.heard-in-Group.ensures
