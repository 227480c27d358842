-- `read_status` meets its contract. What is counted lies within the octets.
use mathlib.Core.Path.{◌∙◌}
use native.Mathlib.Omega.{arith}
use Rattle.message.specs.Reading.{status_behind, status_of}
use Rattle.message.proofs.Bodies.{passed, counted-lies, counted-fault, status-done}
use Rattle.message.proofs.kinds.read_status.Goals as goal

pub returns-in_err-cause : goal.returns-in_err-cause
unfolding status_of
returns-in_err-cause c =
    passed _ _ c.from_residual.ensures.1 ∙ counted-fault c.args.octets.now 2 1 247 (status_behind c.args.octets.now) _ c.in_err-cause.ensures

pub overflow_add-end : goal.overflow_add-end
overflow_add-end c = omega (arith, (counted-lies c.args.octets.now 2 1 247 _ c.in_ok-cause.ensures).fits)

pub returns : goal.returns
returns c = status-done c.args.octets.now _ c.in_ok-cause.ensures _ _ _ c.half_at-state.ensures c.half_at-attributes.ensures c.whole.ensures
