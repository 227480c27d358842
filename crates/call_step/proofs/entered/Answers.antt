-- `entered` meets its contract: the row may name the originator, then its state is entered.
use Rattle.call_step.proofs.entered.Goals as goal

pub returns : goal.returns
returns c = rw (c.parameters_after.ensures, c.originating-named.ensures)
