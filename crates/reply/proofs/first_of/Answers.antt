-- `first_of` meets its contract: no octet is 0.
use Rattle.reply.proofs.Pending.{no_first}
use Rattle.reply.proofs.first_of.Goals as goal

pub returns-then-octets-eq0 : goal.returns-then-octets-eq0
returns-then-octets-eq0 c = no_first c.args.octets.now c.if-octets-eq0.true
