-- `status_fits` meets its contract: its four tests in order.
use mathlib.Core.Path.{◌≡◌, sym, ◌∙◌}
use mathlib.Core.Bool.{true}
use native.Mathlib.Omega.{arith}
use Rattle.limits.specs.Limits.{run_fits}
use Rattle.limits.proofs.Tests.{good, half_small, status-run, status-state, status_attributes, status-total}
use Rattle.limits.proofs.status_fits.Goals as goal

pub returns-then-not-cause_fits : goal.returns-then-not-cause_fits
returns-then-not-cause_fits c = status-run c.args.source.now _ _ _ (sym c.cause_fits.ensures ∙ c.if-not-cause_fits.true)

pub returns-then-not-half_fits : goal.returns-then-not-half_fits
returns-then-not-half_fits c =
    let run_is : run_fits c.args.source.now c.args.cause 1 247 ≡ true =
    sym c.cause_fits.ensures ∙ c.if-not-cause_fits.false in
    status-state c.args.source.now _ _ _ (run_is) (sym c.half_fits.ensures ∙ c.if-not-half_fits.true)

pub returns-then-not-half_fits-2 : goal.returns-then-not-half_fits-2
returns-then-not-half_fits-2 c =
    let run_is : run_fits c.args.source.now c.args.cause 1 247 ≡ true =
    sym c.cause_fits.ensures ∙ c.if-not-cause_fits.false in
    status_attributes c.args.source.now _ _ _ (run_is) (sym c.half_fits.ensures ∙ c.if-not-half_fits.false) (sym c.half_fits-2.ensures ∙ c.if-not-half_fits-2.true)

pub overflow_add-result : goal.overflow_add-result
overflow_add-result c =
    let run_is : run_fits c.args.source.now c.args.cause 1 247 ≡ true =
    sym c.cause_fits.ensures ∙ c.if-not-cause_fits.false in
    omega (arith, good _ _ _ _ (run_is))

pub overflow_add-result-2 : goal.overflow_add-result-2
overflow_add-result-2 c =
    let run_is : run_fits c.args.source.now c.args.cause 1 247 ≡ true =
    sym c.cause_fits.ensures ∙ c.if-not-cause_fits.false in
    omega (arith, good _ _ _ _ (run_is), c.half_count.ensures, half_small c.args.state)

pub overflow_add-result-3 : goal.overflow_add-result-3
overflow_add-result-3 c =
    let run_is : run_fits c.args.source.now c.args.cause 1 247 ≡ true =
    sym c.cause_fits.ensures ∙ c.if-not-cause_fits.false in
    omega (arith, good _ _ _ _ (run_is), c.half_count.ensures, half_small c.args.state, c.half_count-2.ensures, half_small c.args.attributes)

pub returns : goal.returns
returns c =
    let run_is : run_fits c.args.source.now c.args.cause 1 247 ≡ true =
    sym c.cause_fits.ensures ∙ c.if-not-cause_fits.false in
    status-total c.args.source.now _ _ _ _ _ (run_is) (sym c.half_fits.ensures ∙ c.if-not-half_fits.false) (sym c.half_fits-2.ensures ∙ c.if-not-half_fits-2.false) c.half_count.ensures c.half_count-2.ensures
