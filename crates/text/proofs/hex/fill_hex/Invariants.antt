-- `fill_hex` meets its contract: before each turn the digits that are left, put where they go, make the whole.
use Prim.Native.Nat.{◌+◌, ◌*◌, ◌-◌, ◌≤◌}
use mathlib.Core.Path.{◌≡◌}
use lib.ListN.{length, drop}
use lib.Seq.{sets}
use Rattle.text.specs.Hex.{hex_of}
use Rattle.text.proofs.hex.fill_hex.Given as goal

abbrev pub invariant-loop-step : goal.invariant-loop-step
invariant-loop-step l = (l.step ≤ l.step-end) × (l.step-end ≡ length l.octets) × (length l.buffer ≡ length l.initial.buffer) × (sets l.buffer (l.at + 2 * l.step) (hex_of (drop l.step l.octets)) ≡ sets l.initial.buffer l.at (hex_of l.octets))

abbrev pub decreases-loop-step : goal.decreases-loop-step
decreases-loop-step l = l.step-end - l.step
