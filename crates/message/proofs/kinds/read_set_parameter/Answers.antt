-- `read_set_parameter` meets its contract: cut short, or the whole message.
use Rattle.message.specs.Reading.{set_parameter_of}
use Rattle.message.proofs.Bodies.{whole-cut}
use Rattle.message.proofs.kinds.read_set_parameter.Goals as goal

pub returns-then-octets-lt3 : goal.returns-then-octets-lt3
unfolding set_parameter_of
returns-then-octets-lt3 c = whole-cut _ _ _ c.if-octets-lt3.true

pub returns : goal.returns
unfolding set_parameter_of
returns c = c.whole.ensures
