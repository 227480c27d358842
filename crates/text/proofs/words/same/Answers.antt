-- `same` meets its contract: `==` compares head by head.
use Rattle.std.proofs.Common.{◌∙◌}
use Rattle.text.proofs.Places.{same-pointwise}
use Rattle.text.proofs.words.same.Goals as goal

pub returns : goal.returns
returns c = c.eq.ensures ∙ same-pointwise c.args.text.now c.args.other.now
