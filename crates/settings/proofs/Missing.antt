-- A name that is missing, from what is made of its value or of the fault.
use mathlib.Core.Path.{◌≡◌}
use Rattle.std.specs.Prelude.{Option, Some, None, Result, Err}
use Rattle.std.specs.Option.{ok_or}
use Rattle.settings_values.specs.declared.Settings.{Settings}
use Rattle.settings_line.specs.declared.Fault.{Fault}
use Rattle.settings.specs.Settings.{needed}

pub missing : {T : Type 0} (o : Option T) (e fault : Fault) (rest : T → Result Settings Fault) → Err e ≡ ok_or o fault → Err e ≡ needed o fault rest
missing None e fault rest p = cc
missing (Some value) e fault rest p = absurd (cc)
