-- `settings::read_settings` meets its contract: before each turn the file from `at` on, behind what is seen, gives the whole answer.
use mathlib.Core.Path.{refl, ap, ◌∙◌}
use native.Mathlib.Omega.{arith}
use Rattle.std.proofs.lemmas.Result.{err_from_is_err_and}
use Rattle.settings.specs.Settings.{outcome_at, settings_of}
use Rattle.settings.proofs.Walk.{walk_end, walk_cut, walk_stop, walk_on}
use Rattle.settings.proofs.read_settings.Goals as goal

pub loop-at-init : goal.loop-at-init
unfolding settings_of
loop-at-init c = (omega arith, omega arith, refl)

pub returns-then-file-end : goal.returns-then-file-end
returns-then-file-end c =
    let l = c.loop-at in
    walk_cut c.args.file.now l.at l.line _ l.seen c.loop-at-test.true c.line_end-end.ensures c.if-file-end.true
    ∙ l.invariant.2

pub returns-in_err-seen : goal.returns-in_err-seen
returns-in_err-seen c =
    let l = c.loop-at in
    let p = err_from_is_err_and c.from_residual.result c.from_residual.ensures.1 in
    rw (p.1, p.2)
    (walk_stop c.args.file.now l.at l.line _ l.seen c.loop-at-test.true c.line_end-end.ensures c.if-file-end.false _ c.with_line.ensures _ c.in_err-seen.ensures ∙ l.invariant.2)

pub loop-at-preserved : goal.loop-at-preserved
loop-at-preserved c =
    let l = c.loop-at in (
      omega arith,
      omega (arith, c.line_end-end.ensures),
      walk_on c.args.file.now l.at l.line _ l.seen c.loop-at-test.true c.line_end-end.ensures c.if-file-end.false _ c.with_line.ensures _ c.in_ok-seen.ensures ∙ l.invariant.2,
    )

pub returns : goal.returns
returns c =
    let l = c.loop-at in
    c.at_line-2.ensures ∙ ap (outcome_at l.line) c.whole.ensures ∙ walk_end c.args.file.now l.at l.line l.seen c.loop-at-test.false ∙ l.invariant.2
