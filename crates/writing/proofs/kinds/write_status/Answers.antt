-- `write_status` meets its contract: out of range, or the table's octets.
use mathlib.Core.Path.{◌≡◌, sym, ◌∙◌}
use mathlib.Core.Bool.{true}
use native.Mathlib.Omega.{arith}
use lib.ListN.{length, length-set}
use Rattle.limits.specs.Limits.{run_fits, status_fits, half_count}
use Rattle.limits.proofs.Tests.{good, fine}
use Rattle.writing.proofs.Bodies.{refused, status-done, no_room, status-count}
use Prim.Native.Nat.{◌+◌, ◌≤◌}
use Rattle.writing.proofs.kinds.write_status.Goals as goal

pub returns-then-not-status_fits : goal.returns-then-not-status_fits
returns-then-not-status_fits c = refused _ _ _ (sym c.status_fits.ensures ∙ c.if-not-status_fits.true)

pub status_count-requires : goal.status_count-requires
status_count-requires c =
    let fits-is : let a = c.args in status_fits a.source.now a.cause a.state a.attributes ≡ true =
    sym c.status_fits.ensures ∙ c.if-not-status_fits.false in
    let run_is : let a = c.args in run_fits a.source.now a.cause 1 247 ≡ true =
    (fine _ _ _ _ (fits-is)).run in
    omega (arith, good _ _ _ _ (run_is))

pub returns-then-buffer-status_count : goal.returns-then-buffer-status_count
returns-then-buffer-status_count c =
    let fits-is : let a = c.args in status_fits a.source.now a.cause a.state a.attributes ≡ true =
    sym c.status_fits.ensures ∙ c.if-not-status_fits.false in
    let f = fits-is in no_room _ _ _ _ f (status-count _ _ _ _ _ f ∙ sym c.status_count.ensures) c.if-buffer-status_count.true

pub bounds-buffer-0 : goal.bounds-buffer-0
bounds-buffer-0 c =
    let room-is : let a = c.args in 3 + a.cause.count + half_count a.state + half_count a.attributes ≤ length a.buffer.now =
    omega (arith, c.if-buffer-status_count.false, c.status_count.ensures) in
    omega (arith, room-is)

pub bounds-buffer-1 : goal.bounds-buffer-1
bounds-buffer-1 c =
    let room-is : let a = c.args in 3 + a.cause.count + half_count a.state + half_count a.attributes ≤ length a.buffer.now =
    omega (arith, c.if-buffer-status_count.false, c.status_count.ensures) in
    simp length-set (omega (arith, room-is))

pub overflow_cast-buffer : goal.overflow_cast-buffer
overflow_cast-buffer c =
    let fits-is : let a = c.args in status_fits a.source.now a.cause a.state a.attributes ≡ true =
    sym c.status_fits.ensures ∙ c.if-not-status_fits.false in
    let run_is : let a = c.args in run_fits a.source.now a.cause 1 247 ≡ true =
    (fine _ _ _ _ (fits-is)).run in
    omega (arith, good _ _ _ _ (run_is))

pub bounds-buffer-2 : goal.bounds-buffer-2
bounds-buffer-2 c =
    let room-is : let a = c.args in 3 + a.cause.count + half_count a.state + half_count a.attributes ≤ length a.buffer.now =
    omega (arith, c.if-buffer-status_count.false, c.status_count.ensures) in
    simp length-set (omega (arith, room-is))

pub copy_to-requires : goal.copy_to-requires
copy_to-requires c =
    let fits-is : let a = c.args in status_fits a.source.now a.cause a.state a.attributes ≡ true =
    sym c.status_fits.ensures ∙ c.if-not-status_fits.false in
    let run_is : let a = c.args in run_fits a.source.now a.cause 1 247 ≡ true =
    (fine _ _ _ _ (fits-is)).run in
    let room-is : let a = c.args in 3 + a.cause.count + half_count a.state + half_count a.attributes ≤ length a.buffer.now =
    omega (arith, c.if-buffer-status_count.false, c.status_count.ensures) in
    simp length-set (omega (arith, good _ _ _ _ (run_is), room-is))

pub overflow_add-count : goal.overflow_add-count
overflow_add-count c =
    let fits-is : let a = c.args in status_fits a.source.now a.cause a.state a.attributes ≡ true =
    sym c.status_fits.ensures ∙ c.if-not-status_fits.false in
    let run_is : let a = c.args in run_fits a.source.now a.cause 1 247 ≡ true =
    (fine _ _ _ _ (fits-is)).run in
    omega (arith, good _ _ _ _ (run_is))

pub put_half-place-requires : goal.put_half-place-requires
put_half-place-requires c =
    let kept : length c.copy_to.new.buffer ≡ length c.args.buffer.now =
    c.copy_to.auto.buffer ∙ simp length-set in
    let room-is : let a = c.args in 3 + a.cause.count + half_count a.state + half_count a.attributes ≤ length a.buffer.now =
    omega (arith, c.if-buffer-status_count.false, c.status_count.ensures) in
    let fits-is : let a = c.args in status_fits a.source.now a.cause a.state a.attributes ≡ true =
    sym c.status_fits.ensures ∙ c.if-not-status_fits.false in
    (omega (arith, kept, room-is), omega arith, (fine _ _ _ _ (fits-is)).first)

pub put_half-end-requires : goal.put_half-end-requires
put_half-end-requires c =
    let kept : length c.copy_to.new.buffer ≡ length c.args.buffer.now =
    c.copy_to.auto.buffer ∙ simp length-set in
    let room-is : let a = c.args in 3 + a.cause.count + half_count a.state + half_count a.attributes ≤ length a.buffer.now =
    omega (arith, c.if-buffer-status_count.false, c.status_count.ensures) in
    let fits-is : let a = c.args in status_fits a.source.now a.cause a.state a.attributes ≡ true =
    sym c.status_fits.ensures ∙ c.if-not-status_fits.false in
    (omega (arith, kept, room-is, c.put_half-place.auto.buffer, c.put_half-place.ensures.0), omega arith, (fine _ _ _ _ (fits-is)).second)

pub shape_of-buffer : goal.shape_of-buffer
shape_of-buffer c =
    let kept : length c.copy_to.new.buffer ≡ length c.args.buffer.now =
    c.copy_to.auto.buffer ∙ simp length-set in
    c.put_half-end.auto.buffer ∙ (c.put_half-place.auto.buffer ∙ kept)

pub returns : goal.returns
returns c =
    let fits-is : let a = c.args in status_fits a.source.now a.cause a.state a.attributes ≡ true =
    sym c.status_fits.ensures ∙ c.if-not-status_fits.false in
    let room-is : let a = c.args in 3 + a.cause.count + half_count a.state + half_count a.attributes ≤ length a.buffer.now =
    omega (arith, c.if-buffer-status_count.false, c.status_count.ensures) in
    status-done _ _ _ _ _ _ _ _ _ _ _ (fits-is) (room-is) c.copy_to.ensures c.put_half-place.ensures.0 c.put_half-place.ensures.1
    c.put_half-end.ensures.0 c.put_half-end.ensures.1
