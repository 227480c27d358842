-- `tags` meets its contract: one way or the other.
use Rattle.capture.specs.Capture.{tags_of}
use Rattle.capture.proofs.tags.Goals as goal

pub returns-then-sent : goal.returns-then-sent
unfolding tags_of
returns-then-sent c = rw c.if-sent.true

pub returns : goal.returns
unfolding tags_of
returns c = rw c.if-sent.false
