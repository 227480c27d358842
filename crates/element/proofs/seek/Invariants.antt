-- `seek` meets its contract. Before each turn the answer from here on is the whole answer; each turn goes further on.
use Prim.Native.Nat.{◌-◌}
use lib.ListN.{length}
use Rattle.element.specs.Elements.{element_from}
use Rattle.element.proofs.Elements.{Seeks}
use Rattle.element.proofs.seek.Given as goal

abbrev pub invariant-loop-at : goal.invariant-loop-at
invariant-loop-at l = Seeks l.octets l.low l.high l.at (element_from l.octets l.from l.low l.high)

abbrev pub decreases-loop-at : goal.decreases-loop-at
decreases-loop-at l = length l.octets - l.at
