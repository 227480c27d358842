-- `hearing` meets its contract, either way of its test.
use Rattle.reply.proofs.Pending.{not_awaited, awaited}
use Rattle.reply.proofs.hearing.Goals as goal

pub returns-then-not-talk : goal.returns-then-not-talk
returns-then-not-talk c = not_awaited c.args.octets.now c.args.context c.if-not-talk.true

pub returns : goal.returns
returns c = awaited c.args.octets.now c.args.context c.if-not-talk.false _ c.first_of-first.ensures
