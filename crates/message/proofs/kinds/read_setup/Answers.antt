-- `read_setup` meets its contract: cut short, or the whole message.
use mathlib.Core.Path.{ap, ◌∙◌}
use Rattle.octets.specs.declared.Reference.{Reference}
use Rattle.message.specs.declared.Message.TheVariants.{Setup}
use Rattle.message.specs.Reading.{whole_of, setup_of}
use Rattle.message.proofs.Bodies.{whole-cut}
use Rattle.message.proofs.kinds.read_setup.Goals as goal

pub returns-then-octets-lt6 : goal.returns-then-octets-lt6
unfolding setup_of
returns-then-octets-lt6 c = whole-cut _ _ _ c.if-octets-lt6.true

pub returns : goal.returns
unfolding setup_of
returns c = c.whole.ensures ∙ ap (λ (x : Reference). whole_of c.args.octets.now 6 (Setup x)) c.reference_at-reference.ensures
