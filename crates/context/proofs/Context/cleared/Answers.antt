-- `Context::cleared` meets its contract: it is the definition's record.
use mathlib.Core.Path.{refl}
use Rattle.context.specs.Context.{cleared}
use Rattle.context.proofs.Context.cleared.Goals as goal

pub returns : goal.returns
unfolding cleared
returns c = refl
