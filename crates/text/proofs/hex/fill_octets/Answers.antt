-- `fill_octets` meets its contract: before each turn the octets that are left, put where they go, make the whole.
use native.Mathlib.Nat.{add-zero}
use mathlib.Core.Path.{refl}
use native.Mathlib.Omega.{arith}
use lib.ListN.{length-set}
use Rattle.text.proofs.Spelling.{octets-turn, octets-done}
use Rattle.text.proofs.hex.fill_octets.Goals as goal

pub loop-step-init : goal.loop-step-init
loop-step-init c = (omega arith, refl, rw (add-zero c.args.at))

pub loop-step-preserved : goal.loop-step-preserved
loop-step-preserved c = (omega arith, simp length-set c.loop-step.invariant.1, octets-turn _ _ c.args.text.now c.args.at c.loop-step.step _ _ (omega arith) c.value_of-upper.ensures.0 c.value_of-lower.ensures.0 c.loop-step.invariant.2)

pub shape_of-buffer : goal.shape_of-buffer
shape_of-buffer c = c.loop-step.invariant.1

pub returns : goal.returns
returns c = octets-done _ _ c.args.text.now c.args.at c.loop-step.step (omega arith) c.loop-step.invariant.2
