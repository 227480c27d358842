-- `tell_optional` is safe: each turn goes on to the end of an element.
use Rattle.std.proofs.Common.{◌-◌, length}
use Rattle.message_words.proofs.tell_optional.Given as goal

abbrev pub decreases-loop-at : goal.decreases-loop-at
decreases-loop-at l = length l.octets - l.at
