-- `write_connect` meets its contract: out of range, or the table's octets.
use borrow.Author.Tests.{le-ltb, lt-ltb}
use mathlib.Core.Path.{refl}
use native.Mathlib.Omega.{arith}
use lib.ListN.{length-set}
use Rattle.writing.proofs.Bodies.{refused, connect-done, no_room, connect-count}
use Rattle.writing.proofs.kinds.write_connect.Goals as goal

pub returns-then-originator-ge2 : goal.returns-then-originator-ge2
returns-then-originator-ge2 c = refused _ _ _ (le-ltb _ _ c.if-originator-ge2.true)

pub returns-then-buffer-lt7 : goal.returns-then-buffer-lt7
returns-then-buffer-lt7 c = no_room _ _ _ _ (lt-ltb _ _ c.if-originator-ge2.false) (connect-count _ _ _) c.if-buffer-lt7.true

pub bounds-buffer-1 : goal.bounds-buffer-1
bounds-buffer-1 c = simp length-set (omega arith)

pub bounds-buffer-2 : goal.bounds-buffer-2
bounds-buffer-2 c = simp length-set (omega arith)

pub bounds-buffer-3 : goal.bounds-buffer-3
bounds-buffer-3 c = simp length-set (omega arith)

pub bounds-buffer-4 : goal.bounds-buffer-4
bounds-buffer-4 c = simp length-set (omega arith)

pub bounds-buffer-5 : goal.bounds-buffer-5
bounds-buffer-5 c = simp length-set (omega arith)

pub bounds-buffer-6 : goal.bounds-buffer-6
bounds-buffer-6 c = simp length-set (omega arith)

pub shape_of-buffer : goal.shape_of-buffer
shape_of-buffer c = simp length-set

pub returns : goal.returns
returns c = let a = c.args in connect-done a.buffer.now a.head _ a.reference a.originator c.if-originator-ge2.false c.if-buffer-lt7.false refl
