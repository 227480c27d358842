-- `in_u2nc` meets its contract: its own row, and what every sub-state has.
use borrow.Author.Tests.{eq-eqb, ne_eqb}
use Rattle.transitions.specs.Table.{happened_in}
use Rattle.group_rows.proofs.in_u2nc.Goals as goal

pub returns-then-number-eq-NO_CHANNEL_EXPIRED : goal.returns-then-number-eq-NO_CHANNEL_EXPIRED
unfolding happened_in
returns-then-number-eq-NO_CHANNEL_EXPIRED c = rw (eq-eqb _ _ c.if-number-eq-NO_CHANNEL_EXPIRED.true) c.where_true.ensures

pub returns : goal.returns
unfolding happened_in
returns c = rw (ne_eqb _ _ c.if-number-eq-NO_CHANNEL_EXPIRED.false, ← c.staying-asked.ensures) c.in_sub_state.ensures
