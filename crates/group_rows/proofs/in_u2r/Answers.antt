-- `in_u2r` meets its contract: its own row, and what every sub-state has.
use borrow.Author.Tests.{eq-eqb, ne_eqb}
use Rattle.transitions.specs.Table.{happened_in}
use Rattle.group_rows.proofs.in_u2r.Goals as goal

pub returns-then-number-eq-TALK : goal.returns-then-number-eq-TALK
unfolding happened_in
returns-then-number-eq-TALK c = rw (eq-eqb _ _ c.if-number-eq-TALK.true)

pub returns : goal.returns
unfolding happened_in
returns c = rw (ne_eqb _ _ c.if-number-eq-TALK.false) c.in_sub_state.ensures
