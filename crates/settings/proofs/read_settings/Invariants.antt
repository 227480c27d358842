-- `settings::read_settings` meets its contract: before each turn the file from `at` on, behind what is seen, gives the whole answer.
use Prim.Native.Nat.{◌≤◌, ◌-◌, ◌+◌}
use mathlib.Core.Path.{◌≡◌}
use lib.ListN.{length}
use Rattle.settings.specs.Settings.{settings_of}
use Rattle.settings.proofs.Walk.{left}
use Rattle.settings.proofs.read_settings.Given as goal

abbrev pub invariant-loop-at : goal.invariant-loop-at
invariant-loop-at l = (l.at ≤ length l.file) × (l.line ≤ l.at + 1) × (left l.file l.at l.line l.seen ≡ settings_of l.file)

abbrev pub decreases-loop-at : goal.decreases-loop-at
decreases-loop-at l = length l.file - l.at
