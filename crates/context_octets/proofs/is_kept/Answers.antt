-- `is_kept` meets its contract: each test is the definition's.
use Rattle.context_octets.specs.Octets.{is_kept}
use Rattle.context_octets.proofs.is_kept.Goals as goal

pub returns : goal.returns
unfolding is_kept
returns c = rw (c.is_talk-talks.ensures, c.is_remembered-noted.ensures)
