-- `shift` is safe: each turn stays within the buffer, whose length does not change.
use Prim.Native.Nat.{◌-◌, ◌≤◌}
use mathlib.Core.Path.{◌≡◌}
use borrow.Author.Rules.{rules}
use lib.ListN.{length}
use Rattle.probe.proofs.input.shift.Given as goal

abbrev pub invariant-loop-step : goal.invariant-loop-step
invariant-loop-step l = (l.step ≤ l.count) × (length l.buffer ≡ length l.initial.buffer)

abbrev pub decreases-loop-step : goal.decreases-loop-step
decreases-loop-step l = l.count - l.step
