-- `is_same` meets its contract: the part is the run's octets.
use Rattle.received.proofs.Comparing.{same-part}
use Rattle.received.proofs.is_same.Goals as goal

pub returns : goal.returns
returns c = same-part c.args.octets.now c.args.identity.now c.args.run.start c.args.run.count _ c.same.ensures.0 c.same.ensures.1
