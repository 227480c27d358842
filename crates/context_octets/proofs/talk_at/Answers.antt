-- `talk_at` meets its contract: each test is the definition's.
use Rattle.context_octets.specs.Octets.{talk_at}
use Rattle.context_octets.proofs.talk_at.Goals as goal

pub returns : goal.returns
unfolding talk_at
returns c = rw c.chooser_at-chooser.ensures
