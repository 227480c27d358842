-- `write_identified` meets its contract: out of range, or the table's octets.
use mathlib.Core.Path.{◌≡◌, sym, ◌∙◌}
use mathlib.Core.Bool.{true}
use native.Mathlib.Omega.{arith}
use lib.ListN.{length-set}
use Rattle.limits.specs.Limits.{run_fits}
use Rattle.limits.proofs.Tests.{good}
use Rattle.writing.proofs.Bodies.{refused, identified-done, no_room, identified-count}
use Rattle.writing.proofs.kinds.write_identified.Goals as goal

pub returns-then-not-identity_fits : goal.returns-then-not-identity_fits
returns-then-not-identity_fits c = refused _ _ _ (sym c.identity_fits.ensures ∙ c.if-not-identity_fits.true)

pub overflow_add-count : goal.overflow_add-count
overflow_add-count c =
    let run_is : let a = c.args in run_fits a.source.now a.identity 1 8 ≡ true =
    sym c.identity_fits.ensures ∙ c.if-not-identity_fits.false in
    omega (arith, good _ _ _ _ (run_is))

pub returns-then-buffer-count : goal.returns-then-buffer-count
returns-then-buffer-count c =
    let run_is : let a = c.args in run_fits a.source.now a.identity 1 8 ≡ true =
    sym c.identity_fits.ensures ∙ c.if-not-identity_fits.false in
    no_room _ _ _ _ (run_is) (identified-count _ _ _ (run_is)) c.if-buffer-count.true

pub bounds-buffer-1 : goal.bounds-buffer-1
bounds-buffer-1 c = simp length-set (omega arith)

pub bounds-buffer-2 : goal.bounds-buffer-2
bounds-buffer-2 c = simp length-set (omega arith)

pub overflow_cast-buffer : goal.overflow_cast-buffer
overflow_cast-buffer c =
    let run_is : let a = c.args in run_fits a.source.now a.identity 1 8 ≡ true =
    sym c.identity_fits.ensures ∙ c.if-not-identity_fits.false in
    omega (arith, good _ _ _ _ (run_is))

pub bounds-buffer-3 : goal.bounds-buffer-3
bounds-buffer-3 c = simp length-set (omega arith)

pub copy_to-requires : goal.copy_to-requires
copy_to-requires c =
    let run_is : let a = c.args in run_fits a.source.now a.identity 1 8 ≡ true =
    sym c.identity_fits.ensures ∙ c.if-not-identity_fits.false in
    simp length-set (omega (arith, good _ _ _ _ (run_is)))

pub overflow_add-result : goal.overflow_add-result
overflow_add-result c =
    let run_is : let a = c.args in run_fits a.source.now a.identity 1 8 ≡ true =
    sym c.identity_fits.ensures ∙ c.if-not-identity_fits.false in
    omega (arith, good _ _ _ _ (run_is))

pub shape_of-buffer : goal.shape_of-buffer
shape_of-buffer c = c.copy_to.auto.buffer ∙ simp length-set

pub returns : goal.returns
returns c =
    let run_is : let a = c.args in run_fits a.source.now a.identity 1 8 ≡ true =
    sym c.identity_fits.ensures ∙ c.if-not-identity_fits.false in
    identified-done _ _ _ _ _ (run_is) c.if-buffer-count.false c.copy_to.ensures
