-- `write_reject` meets its contract: out of range, or what the protocol draws.
use mathlib.Core.Path.{◌≡◌, sym, ◌∙◌}
use mathlib.Core.Bool.{true}
use Rattle.limits.specs.Limits.{reject_fits}
use Rattle.writing.proofs.Bodies.{refused, fits-counted, fits-four, reject_at, reject_counted, reject_four}
use Rattle.writing.proofs.kinds.write_reject.Goals as goal

pub returns-then-not-reject_fits : goal.returns-then-not-reject_fits
returns-then-not-reject_fits c = refused _ _ _ (sym c.reject_fits.ensures ∙ c.if-not-reject_fits.true)

pub put_counted-requires : goal.put_counted-requires
put_counted-requires c =
    let fits-is : let a = c.args in reject_fits a.protocol a.source.now a.cause ≡ true =
    sym c.reject_fits.ensures ∙ c.if-not-reject_fits.false in
    fits-counted _ _ _ (fits-is) c.in-Broadcast.is

pub put_four-requires : goal.put_four-requires
put_four-requires c =
    let fits-is : let a = c.args in reject_fits a.protocol a.source.now a.cause ≡ true =
    sym c.reject_fits.ensures ∙ c.if-not-reject_fits.false in
    fits-four _ _ _ (fits-is) c.in-Group.is

pub returns-in-Broadcast : goal.returns-in-Broadcast
returns-in-Broadcast c =
    let fits-is : let a = c.args in reject_fits a.protocol a.source.now a.cause ≡ true =
    sym c.reject_fits.ensures ∙ c.if-not-reject_fits.false in
    let a = c.args in
    reject_at _ _ _ (fits-is) _ _ _ _ _ _ c.in-Broadcast.is (reject_counted a.head a.source.now a.cause) c.put_counted.ensures

pub returns-in-Group : goal.returns-in-Group
returns-in-Group c =
    let fits-is : let a = c.args in reject_fits a.protocol a.source.now a.cause ≡ true =
    sym c.reject_fits.ensures ∙ c.if-not-reject_fits.false in
    let a = c.args in
    reject_at _ _ _ (fits-is) _ _ _ _ _ _ c.in-Group.is (reject_four a.head a.source.now a.cause) c.put_four.ensures
