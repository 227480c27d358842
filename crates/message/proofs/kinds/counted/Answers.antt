-- `counted` meets its contract.
use Rattle.std.proofs.Common.{arith}
use Rattle.std.proofs.lemmas.Grind.{common_steps}
use Rattle.message.specs.Reading.{counted_of}
use Rattle.message.proofs.Bodies.{mapped}
use Rattle.message.proofs.kinds.counted.Goals as goal

pub returns : goal.returns
unfolding counted_of
returns c = rw (← c.counted_at.ensures) (mapped c.args.at c.counted_at.result c.map_err.result (grind (arith, common_steps, c.map_err.ensures.cases)))
