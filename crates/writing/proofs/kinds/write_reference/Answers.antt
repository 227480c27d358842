-- `write_reference` meets its contract: the table's octets.
use mathlib.Core.Path.{refl}
use native.Mathlib.Omega.{arith}
use lib.ListN.{length-set}
use Rattle.writing.proofs.Bodies.{done, no_room}
use Rattle.writing.proofs.kinds.write_reference.Goals as goal

pub returns-then-buffer-lt6 : goal.returns-then-buffer-lt6
returns-then-buffer-lt6 c = no_room _ _ _ 6 refl refl c.if-buffer-lt6.true

pub bounds-buffer-1 : goal.bounds-buffer-1
bounds-buffer-1 c = simp length-set (omega arith)

pub bounds-buffer-2 : goal.bounds-buffer-2
bounds-buffer-2 c = simp length-set (omega arith)

pub bounds-buffer-3 : goal.bounds-buffer-3
bounds-buffer-3 c = simp length-set (omega arith)

pub bounds-buffer-4 : goal.bounds-buffer-4
bounds-buffer-4 c = simp length-set (omega arith)

pub bounds-buffer-5 : goal.bounds-buffer-5
bounds-buffer-5 c = simp length-set (omega arith)

pub shape_of-buffer : goal.shape_of-buffer
shape_of-buffer c = simp length-set

pub returns : goal.returns
returns c = done c.args.buffer.now _ _ 6 _ refl refl c.if-buffer-lt6.false refl
