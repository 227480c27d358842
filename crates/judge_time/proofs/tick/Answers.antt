-- `tick` meets its contract: the clock is astray, no timer runs, or one does.
use mathlib.Core.Path.{◌≡◌, sym, ◌∙◌}
use mathlib.Core.Bool.{false}
use native.Mathlib.Omega.{arith}
use Rattle.judge_time.specs.Clock.{astray}
use Rattle.judge_time.proofs.Ticking.{timely, goes_astray, none_runs_lem, one-runs}
use Rattle.judge_time.proofs.tick.Goals as goal

pub returns-then-is_astray : goal.returns-then-is_astray
returns-then-is_astray c = goes_astray c.args.clock _ _ _ _ (sym c.is_astray.ensures ∙ c.if-is_astray.true)

pub overflow_add-now : goal.overflow_add-now
overflow_add-now c =
    let on-time : astray c.args.clock.time c.args.clock.started ≡ false =
    sym c.is_astray.ensures ∙ c.if-is_astray.false in
    omega (arith, (timely _ _ (on-time)).0)

pub returns-then-before-eq0 : goal.returns-then-before-eq0
returns-then-before-eq0 c =
    let on-time : astray c.args.clock.time c.args.clock.started ≡ false =
    sym c.is_astray.ensures ∙ c.if-is_astray.false in
    none_runs_lem _ _ _ _ _ (on-time) _ c.started_after-started.ensures c.if-before-eq0.true

pub overflow_sub-age : goal.overflow_sub-age
overflow_sub-age c =
    let on-time : astray c.args.clock.time c.args.clock.started ≡ false =
    sym c.is_astray.ensures ∙ c.if-is_astray.false in
    omega (arith, (timely _ _ (on-time)).1)

pub returns : goal.returns
returns c =
    let on-time : astray c.args.clock.time c.args.clock.started ≡ false =
    sym c.is_astray.ensures ∙ c.if-is_astray.false in
    one-runs _ _ _ _ _ (on-time) _ c.started_after-started.ensures c.if-before-eq0.false _ c.expired_number.ensures _ c.while_running.ensures
