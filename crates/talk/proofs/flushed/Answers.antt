-- `flushed` meets its contract, with the request sent and without.
use Rattle.call.specs.Talk.{flushed}
use Rattle.talk.proofs.flushed.Goals as goal

pub returns-then-sent : goal.returns-then-sent
unfolding flushed
returns-then-sent c = rw (c.requested.ensures, ← c.sent_in-sent.ensures, c.answered-rest.ensures, c.if-sent.true)

pub returns : goal.returns
unfolding flushed
returns c = rw (c.answered-rest.ensures, ← c.sent_in-sent.ensures, c.if-sent.false)
