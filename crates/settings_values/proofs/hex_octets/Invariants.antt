-- `settings_values::hex_octets` meets its contract: before each turn the digits that are left, read into the octets so far, give the whole answer.
use Prim.Native.Nat.{◌≤◌, ◌-◌, ◌*◌}
use mathlib.Core.Path.{◌≡◌}
use lib.ListN.{length, drop}
use Rattle.settings_values.specs.Values.{hex_from, hex_of}
use Rattle.settings_values.proofs.hex_octets.Given as goal

abbrev pub invariant-loop-place : goal.invariant-loop-place
invariant-loop-place l = (l.place ≤ 8) × (length l.octets ≡ 8) × (hex_from (8 - l.place) l.octets l.place (drop (2 * l.place) l.text) ≡ hex_of l.text)

abbrev pub decreases-loop-place : goal.decreases-loop-place
decreases-loop-place l = 8 - l.place
