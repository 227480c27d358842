-- Which timer is set by what is due: that of the event's row (document 01, "Events and steps", the column of effects), or T_term where a pending termination request
-- is sent.
use Rattle.std.specs.Prelude.{ℕ, List, cond}
use Rattle.timer.specs.declared.Timer.TheVariants.{Term}
use Rattle.timer.specs.Timers.{timer_number}
use Rattle.version.specs.declared.Table.{Table}
use Rattle.context.specs.declared.Context.{Context}
use Rattle.fitness.specs.Fitness.{Fitness}
use Rattle.fitness.specs.Tables.{fitness_of}
use Rattle.transitions.specs.Table.{Row, step_table, decided_by, set_by}
use Rattle.call.specs.declared.Seen.{Seen}
use Rattle.call.specs.declared.Due.{Due}
use Rattle.call.specs.declared.Due.TheVariants.{Steps, Ignored, Reported, Refused}
use Rattle.call.specs.Events.{seen_of}
use Rattle.call.specs.Due.{settled_by}

-- Its number, 0 where none is set.
unfoldable pub set_by_row : List Row → Context → Due → ℕ
set_by_row rows x (Steps event) = let e : Seen = seen_of event in set_by (decided_by rows x e.number e.code)
set_by_row rows x (Ignored reason) = 0
set_by_row rows x (Reported cause) = 0
set_by_row rows x Refused = 0

unfoldable pub set_by_due_in : Fitness → List Row → Context → Due → ℕ
set_by_due_in fitness rows x due = cond (settled_by fitness rows x due).sent.request (timer_number Term) (set_by_row rows x due)

-- By a step table.
abbrev pub set_by_due : Table → Context → Due → ℕ
set_by_due table = set_by_due_in (fitness_of table) (step_table table)
