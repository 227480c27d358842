-- Rows that change nothing of what only a group call keeps.
use Rattle.std.specs.Prelude.{Bool, false, not}
use Rattle.codes.specs.declared.state.State.{State}
use Rattle.codes.specs.declared.state.State.TheVariants.{U2ws}
use Rattle.context.specs.States.{same}
use Rattle.transitions.specs.declared.Note.{Note}

-- The row notes nothing, and U2ws is not where it leads.
unfoldable pub is_quiet : Note → State → Bool
is_quiet Note.Nothing next = not (same next U2ws)
is_quiet Note.WeChose next = false
is_quiet Note.CellChose next = false
is_quiet Note.TerminationPends next = false
is_quiet Note.StatusPends next = false
is_quiet Note.TerminationDropped next = false
