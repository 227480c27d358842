use Rattle.std.proofs.Common.{arith, length-set}
use Rattle.octets.proofs.Stores.{copy_turn, copy_done}
use Rattle.octets.proofs.copy_to.Goals as goal

pub loop-step-preserved : goal.loop-step-preserved
loop-step-preserved c = (
  omega arith,
  simp length-set c.loop-step.invariant.1,
  copy_turn _ _ _ c.args.source.now c.args.start c.loop-step.step c.loop-step.invariant.2 (omega arith),
)

pub returns : goal.returns
returns c =
    copy_done _ c.args.buffer.now c.args.at c.args.source.now c.args.start c.loop-step.step c.args.count c.loop-step.invariant.2
    c.loop-step.invariant.0 c.loop-step-test.false
