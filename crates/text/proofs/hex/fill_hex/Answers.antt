-- `fill_hex` meets its contract: before each turn the digits that are left, put where they go, make the whole.
use mathlib.Core.Path.{refl}
use native.Mathlib.Omega.{arith}
use native.Mathlib.Nat.{add-zero}
use lib.ListN.{length-set}
use Rattle.text.proofs.Spelling.{hex_turn, hex_done}
use Rattle.text.proofs.hex.fill_hex.Goals as goal

pub loop-step-init : goal.loop-step-init
loop-step-init c = (omega arith, refl, refl, rw (add-zero c.args.at))

pub bounds-buffer-at-in-loop-step : goal.bounds-buffer-at-in-loop-step
bounds-buffer-at-in-loop-step c = simp length-set (omega arith)

pub loop-step-preserved : goal.loop-step-preserved
loop-step-preserved c = (omega arith, c.loop-step.invariant.1, simp length-set c.loop-step.invariant.2, hex_turn _ _ c.args.octets.now c.args.at c.loop-step.step _ _ (omega arith) c.upper_digit.ensures c.lower_digit.ensures c.loop-step.invariant.3)

pub shape_of-buffer : goal.shape_of-buffer
shape_of-buffer c = c.loop-step.invariant.2

pub returns : goal.returns
returns c = hex_done _ _ c.args.octets.now c.args.at c.loop-step.step (omega arith) c.loop-step.invariant.3
