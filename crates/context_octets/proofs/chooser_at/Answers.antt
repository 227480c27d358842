-- `chooser_at` meets its contract: each arm is a row.
use Rattle.octets.proofs.Rows.{no_row}
use Rattle.context.specs.declared.Chooser.TheVariants.{Neither}
use Rattle.context_octets.specs.Octets.{chooser_at, choosers}
use Rattle.context_octets.proofs.chooser_at.Goals as goal

pub returns-in-1 : goal.returns-in-1
unfolding chooser_at
returns-in-1 c = rw c.in-1.is

pub returns-in-2 : goal.returns-in-2
unfolding chooser_at
returns-in-2 c = rw c.in-2.is

pub returns-in_default : goal.returns-in_default
unfolding chooser_at
returns-in_default c = no_row c.args.number Neither choosers c.in_default.in_default-own.rest
