-- `take` meets its contract: what the event comes to, with its reply.
use Rattle.radio.proofs.Reacting.{takes}
use Rattle.radio.proofs.take.Goals as goal

pub returns : goal.returns
returns c = takes c.args.table c.args.own c.args.identity.now c.args.reply.now c.args.context c.args.happened c.args.octets.now _ c.react-taken.ensures _ c.protocol-protocol.ensures _ _ (c.put-count.ensures.value, c.put-count.ensures.reply_after)
