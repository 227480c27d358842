-- `entering` meets its contract: it is the state's row, as far as the state sets it.
use mathlib.Core.Path.{sym, ◌∙◌}
use native.Mathlib.Omega.{arith}
use Rattle.context.specs.Context.{entering}
use Rattle.context.proofs.States.{sets-all}
use Rattle.context.proofs.entering.Goals as goal

pub returns-then-number-lt-U2SL : goal.returns-then-number-lt-U2SL
unfolding entering
returns-then-number-lt-U2SL c = c.start_row-row.ensures ∙ sets-all _ _ (omega (arith, c.state_number-number.ensures, c.if-number-lt-U2SL.true))

pub returns : goal.returns
unfolding entering
returns c = rw (sym c.start_row-row.ensures, sym c.set_row-sets.ensures) c.set_or_kept.ensures
