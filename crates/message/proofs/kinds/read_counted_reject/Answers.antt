-- `read_counted_reject` meets its contract. What is counted lies within the octets.
use mathlib.Core.Path.{◌∙◌}
use native.Mathlib.Omega.{arith}
use Rattle.message.specs.Reading.{termination_reject_behind, termination_reject_of}
use Rattle.message.proofs.Bodies.{passed, counted-lies, counted-run, counted-fault}
use Rattle.message.proofs.kinds.read_counted_reject.Goals as goal

pub returns-in_err-cause : goal.returns-in_err-cause
unfolding termination_reject_of
returns-in_err-cause c =
    passed _ _ c.from_residual.ensures.1 ∙ counted-fault c.args.octets.now 2 1 247 (termination_reject_behind c.args.octets.now) _ c.in_err-cause.ensures

pub overflow_add-end : goal.overflow_add-end
overflow_add-end c = omega (arith, (counted-lies c.args.octets.now 2 1 247 _ c.in_ok-cause.ensures).fits)

pub returns : goal.returns
unfolding termination_reject_of
returns c = c.whole.ensures ∙ counted-run c.args.octets.now 2 1 247 (termination_reject_behind c.args.octets.now) _ c.in_ok-cause.ensures
