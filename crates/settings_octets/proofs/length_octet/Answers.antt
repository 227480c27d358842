-- `length_octet` meets its contract: the least of the length and 255.
use borrow.Author.Rules.{rules}
use Rattle.settings_octets.specs.Octets.{length_octet}
use Rattle.settings_octets.proofs.length_octet.Goals as goal

pub returns-then-count-lt255 : goal.returns-then-count-lt255
unfolding length_octet
returns-then-count-lt255 c = search rules

pub returns : goal.returns
unfolding length_octet
returns c = search rules
