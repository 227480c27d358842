-- `octets_room` meets its contract: so many zeros.
use Prim.Native.Nat.{ℕ}
use mathlib.Core.Path.{sym}
use lib.ListN.{length-replicate}
use Rattle.probe.proofs.input.octets_room.Goals as goal

pub returns : goal.returns
returns c = sym (length-replicate {A = ℕ} 131072 0)
