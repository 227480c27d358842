-- What is due where something happens, and what each comes to.
use Rattle.std.specs.Prelude.{List}
use Rattle.context.specs.declared.Context.{Context}
use Rattle.fitness.specs.Fitness.{Fitness}
use Rattle.version.specs.declared.Table.{Table}
use Rattle.fitness.specs.Tables.{fitness_of}
use Rattle.transitions.specs.Table.{Row, step_table}
use Rattle.call.specs.declared.Due.{Due}
use Rattle.call.specs.declared.Due.TheVariants.{Steps, Ignored, Reported, Refused}
use Rattle.call.specs.declared.Settled.{Settled}
use Rattle.call.specs.Step.{ignored, no_step, reported_with, step_by}

unfoldable pub settled_by : Fitness → List Row → Context → Due → Settled
settled_by fitness rows x (Steps event) = step_by fitness rows x event
settled_by fitness rows x (Ignored reason) = ignored reason x
settled_by fitness rows x (Reported cause) = reported_with cause x
settled_by fitness rows x Refused = no_step x

-- By a step table.
abbrev pub settled : Table → Context → Due → Settled
settled table = settled_by (fitness_of table) (step_table table)
