-- `put` meets its contract: the test of the transaction value, then the kind's writer.
use Rattle.writing.specs.Writing.{put_answer, put_leaves}
use Rattle.writing.proofs.Fitting.{value_over, puts_whole}
use Rattle.writing.proofs.put.Goals as goal

pub returns-then-value-gt6-clause-value : goal.returns-then-value-gt6-clause-value
unfolding put_answer put_leaves
returns-then-value-gt6-clause-value c =
    let a = c.args in
    let over = value_over a.protocol a.source.now a.flag a.value a.message c.if-value-gt6.true in
    simp over

pub returns-then-value-gt6-clause-part_after : goal.returns-then-value-gt6-clause-part_after
unfolding put_answer put_leaves
returns-then-value-gt6-clause-part_after c =
    let a = c.args in
    let over = value_over a.protocol a.source.now a.flag a.value a.message c.if-value-gt6.true in
    simp over

pub returns-clause-value : goal.returns-clause-value
unfolding put_answer put_leaves
returns-clause-value c =
    let a = c.args in
    (puts_whole a.protocol _ a.source.now _ a.flag a.value a.message _ _ c.if-value-gt6.false c.head_of-head.ensures c.write_body.ensures).0

pub returns-clause-part_after : goal.returns-clause-part_after
unfolding put_answer put_leaves
returns-clause-part_after c =
    let a = c.args in
    (puts_whole a.protocol _ a.source.now _ a.flag a.value a.message _ _ c.if-value-gt6.false c.head_of-head.ensures c.write_body.ensures).1
