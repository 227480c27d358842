-- `write_set_parameter` meets its contract: out of range, or the table's octets.
use borrow.Author.Tests.{le-ltb, lt-ltb}
use mathlib.Core.Path.{refl}
use native.Mathlib.Omega.{arith}
use lib.ListN.{length-set}
use Rattle.writing.proofs.Bodies.{refused, parameter_done, no_room, parameter_count}
use Rattle.writing.proofs.kinds.write_set_parameter.Goals as goal

pub returns-then-attributes-ge16 : goal.returns-then-attributes-ge16
returns-then-attributes-ge16 c = refused _ _ _ (le-ltb _ _ c.if-attributes-ge16.true)

pub returns-then-buffer-lt3 : goal.returns-then-buffer-lt3
returns-then-buffer-lt3 c = no_room _ _ _ _ (lt-ltb _ _ c.if-attributes-ge16.false) (parameter_count _ _) c.if-buffer-lt3.true

pub bounds-buffer-1 : goal.bounds-buffer-1
bounds-buffer-1 c = simp length-set (omega arith)

pub bounds-buffer-2 : goal.bounds-buffer-2
bounds-buffer-2 c = simp length-set (omega arith)

pub shape_of-buffer : goal.shape_of-buffer
shape_of-buffer c = simp length-set

pub returns : goal.returns
returns c = let a = c.args in parameter_done a.buffer.now a.head _ a.attributes c.if-attributes-ge16.false c.if-buffer-lt3.false refl
