-- `own_of` meets its contract: each octet is the definition's.
use borrow.Author.Rules.{rules}
use Rattle.settings_octets.specs.Octets.{own_of}
use Rattle.settings_octets.proofs.own_of.Goals as goal

pub returns : goal.returns
unfolding own_of
returns c = search rules
