-- `write_termination` meets its contract: out of range, or a type and a cause.
use mathlib.Core.Path.{◌≡◌, sym, ◌∙◌}
use mathlib.Core.Bool.{true}
use Rattle.limits.specs.Limits.{run_fits}
use Rattle.writing.proofs.Bodies.{refused, taken, termination-octets}
use Rattle.writing.proofs.kinds.write_termination.Goals as goal

pub returns-then-not-cause_fits : goal.returns-then-not-cause_fits
returns-then-not-cause_fits c = refused _ _ _ (sym c.cause_fits.ensures ∙ c.if-not-cause_fits.true)

pub put_counted-requires : goal.put_counted-requires
put_counted-requires c =
    let run_is : let a = c.args in run_fits a.source.now a.cause 1 247 ≡ true =
    sym c.cause_fits.ensures ∙ c.if-not-cause_fits.false in
    run_is

pub returns : goal.returns
returns c =
    let run_is : let a = c.args in run_fits a.source.now a.cause 1 247 ≡ true =
    sym c.cause_fits.ensures ∙ c.if-not-cause_fits.false in
    let a = c.args in
    taken _ _ _ _ _ _ (run_is) (termination-octets a.head a.source.now a.cause) c.put_counted.ensures
