-- `kept_after` meets its contract: what the row notes, then what is awaited; a quiet row changes neither.
use mathlib.Core.Path.{sym, ◌∙◌}
use Rattle.talk.proofs.Quiet.{quiet_keeps}
use Rattle.talk.proofs.kept_after.Goals as goal

pub returns-then-is_quiet : goal.returns-then-is_quiet
returns-then-is_quiet c = quiet_keeps _ _ _ _ _ (sym c.is_quiet.ensures ∙ c.if-is_quiet.true)

pub returns : goal.returns
returns c = rw (c.awaiting_after.ensures, c.noted-told.ensures)
