-- `stream` is safe: what is kept of the lines stands in their buffer.
use Rattle.std.proofs.Common.{◌≤◌, length}
use Rattle.probe.proofs.input.stream.Given as goal

abbrev pub invariant-loop : goal.invariant-loop
invariant-loop l = l.progress.have ≤ length l.lines
