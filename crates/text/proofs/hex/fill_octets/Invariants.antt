-- `fill_octets` meets its contract: before each turn the octets that are left, put where they go, make the whole.
use Prim.Native.Nat.{◌+◌, ◌*◌, ◌-◌, ◌≤◌}
use mathlib.Core.Path.{◌≡◌}
use lib.ListN.{length, drop}
use lib.Seq.{sets}
use Rattle.text.specs.Hex.{octets_of}
use Rattle.text.proofs.hex.fill_octets.Given as goal

abbrev pub invariant-loop-step : goal.invariant-loop-step
invariant-loop-step l = (l.step ≤ l.count) × (length l.buffer ≡ length l.initial.buffer) × (sets l.buffer (l.at + l.step) (octets_of (drop (2 * l.step) l.text)) ≡ sets l.initial.buffer l.at (octets_of l.text))

abbrev pub decreases-loop-step : goal.decreases-loop-step
decreases-loop-step l = l.count - l.step
