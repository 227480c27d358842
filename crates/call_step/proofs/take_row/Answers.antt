-- `take_row` meets its contract: what is adopted, the row, and what was pending.
use Rattle.call_step.proofs.take_row.Goals as goal

pub returns : goal.returns
returns c = rw (c.took.ensures, c.afterwards-after.ensures, c.adopted-taking.ensures)
