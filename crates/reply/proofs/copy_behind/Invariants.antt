-- Before each turn the octets passed are copied, and no more than there are.
use Rattle.std.proofs.Common.{◌≡◌, min}
use Rattle.std.proofs.lemmas.List.Edits.{sets}
use Rattle.octets.specs.Run.{part}
use Rattle.reply.proofs.copy_behind.Given as goal

abbrev pub invariant-loop-step : goal.invariant-loop-step
invariant-loop-step l = l.source ≡ sets l.initial.source 1 (part l.octets 0 (min l.step l.count))
