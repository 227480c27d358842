-- `read_get_status` meets its contract.
use mathlib.Core.Path.{ap, ◌∙◌}
use Rattle.octets.specs.declared.Run.{Run}
use Rattle.std.specs.Prelude.{Option}
use Rattle.message.specs.declared.Message.TheVariants.{GetStatus}
use Rattle.message.specs.Reading.{whole_of, get_status_of}
use Rattle.message.proofs.kinds.read_get_status.Goals as goal

pub returns : goal.returns
unfolding get_status_of
returns c = c.whole.ensures ∙ ap (λ (x : Option Run). whole_of c.args.octets.now 2 (GetStatus x)) c.identity_in-identity.ensures
