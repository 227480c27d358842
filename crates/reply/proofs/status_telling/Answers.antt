-- `status_telling` meets its contract: the state as its code, the parameters as attributes.
use Rattle.reply.proofs.Putting.{telling}
use Rattle.reply.proofs.status_telling.Goals as goal

pub returns : goal.returns
returns c = telling c.args.cause c.args.state c.args.parameters _ _ c.call_state_code-code.ensures c.attributes_of-attributes.ensures
