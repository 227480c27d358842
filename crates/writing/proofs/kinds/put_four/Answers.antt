-- `put_four` meets its contract: no room, or the octets.
use native.Mathlib.Omega.{arith}
use mathlib.Core.Path.{refl, ◌∙◌}
use lib.ListN.{length-set}
use Rattle.limits.proofs.Tests.{good}
use Rattle.writing.proofs.Bodies.{four-done, no_room, four-count}
use Rattle.writing.proofs.kinds.put_four.Goals as goal

pub overflow_add-count : goal.overflow_add-count
overflow_add-count c = omega (arith, good _ _ _ _ c.requires)

pub returns-then-buffer-count : goal.returns-then-buffer-count
returns-then-buffer-count c =
    let a = c.args in
    no_room _ _ _ _ refl (four-count _ a.head _ a.kind c.requires) c.if-buffer-count.true

pub bounds-buffer-1 : goal.bounds-buffer-1
bounds-buffer-1 c = simp length-set (omega arith)

pub copy_to-requires : goal.copy_to-requires
copy_to-requires c = simp length-set (omega (arith, good _ _ _ _ c.requires))

pub overflow_add-result : goal.overflow_add-result
overflow_add-result c = omega (arith, good _ _ _ _ c.requires)

pub shape_of-buffer : goal.shape_of-buffer
shape_of-buffer c = c.copy_to.auto.buffer ∙ simp length-set

pub returns : goal.returns
returns c = four-done _ _ _ _ _ _ c.requires c.if-buffer-count.false c.copy_to.ensures
