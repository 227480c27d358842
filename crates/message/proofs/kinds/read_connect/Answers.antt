-- `read_connect` meets its contract: cut short, or the whole message.
use mathlib.Core.Path.{ap, ◌∙◌}
use lib.ListN.{get_or}
use Prim.Native.Nat.{◌%◌}
use Rattle.octets.specs.declared.Reference.{Reference}
use Rattle.message.specs.declared.Message.TheVariants.{Connect}
use Rattle.message.specs.Reading.{whole_of, connect_of}
use Rattle.message.proofs.Bodies.{whole-cut}
use Rattle.message.proofs.kinds.read_connect.Goals as goal

pub returns-then-octets-lt7 : goal.returns-then-octets-lt7
unfolding connect_of
returns-then-octets-lt7 c = whole-cut _ _ _ c.if-octets-lt7.true

pub returns : goal.returns
unfolding connect_of
returns c = c.whole.ensures ∙ ap (λ (x : Reference). whole_of c.args.octets.now 7 (Connect x (get_or c.args.octets.now 6 0 % 2))) c.reference_at-reference.ensures
