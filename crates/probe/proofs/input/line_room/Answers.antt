-- `line_room` meets its contract: so many zeros.
use Prim.Native.Nat.{ℕ}
use mathlib.Core.Path.{sym}
use lib.ListN.{length-replicate}
use Rattle.probe.proofs.input.line_room.Goals as goal

pub returns : goal.returns
returns c = sym (length-replicate {A = ℕ} 262145 0)
