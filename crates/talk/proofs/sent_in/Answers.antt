-- `sent_in` meets its contract: it is the definition's record.
use mathlib.Core.Path.{refl}
use Rattle.call.specs.Talk.{sent_in}
use Rattle.talk.proofs.sent_in.Goals as goal

pub returns : goal.returns
unfolding sent_in
returns c = refl
