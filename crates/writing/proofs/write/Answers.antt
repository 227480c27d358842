-- `write` meets its contract: the test of the buffer, then `put`, for which such a buffer has room.
use borrow.Author.Tests.{lt-ltb}
use Rattle.writing.specs.Writing.{write_answer, write_leaves}
use Rattle.writing.proofs.Fitting.{written_put}
use Rattle.writing.proofs.write.Goals as goal

pub returns-then-buffer-lt255-clause-value : goal.returns-then-buffer-lt255-clause-value
unfolding write_answer write_leaves
returns-then-buffer-lt255-clause-value c = simp (lt-ltb _ _ c.if-buffer-lt255.true)

pub returns-then-buffer-lt255-clause-buffer_after : goal.returns-then-buffer-lt255-clause-buffer_after
unfolding write_answer write_leaves
returns-then-buffer-lt255-clause-buffer_after c = simp (lt-ltb _ _ c.if-buffer-lt255.true)

pub returns-clause-value : goal.returns-clause-value
unfolding write_answer write_leaves
returns-clause-value c =
    let a = c.args in
    (written_put a.protocol a.buffer.now a.source.now a.flag a.value a.message c.if-buffer-lt255.false _ _ (c.put.ensures.value, c.put.ensures.part_after)).0

pub returns-clause-buffer_after : goal.returns-clause-buffer_after
unfolding write_answer write_leaves
returns-clause-buffer_after c =
    let a = c.args in
    (written_put a.protocol a.buffer.now a.source.now a.flag a.value a.message c.if-buffer-lt255.false _ _ (c.put.ensures.value, c.put.ensures.part_after)).1
