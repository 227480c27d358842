-- `set_or_kept` meets its contract, parameter by parameter.
use Rattle.context.proofs.Chosen.{all_chosen}
use Rattle.context.proofs.set_or_kept.Goals as goal

pub returns : goal.returns
returns c = let given = c.args in all_chosen given.sets given.row given.before
