-- `note_fields` is safe and ends: each turn goes on by a field, which has a character.
use Rattle.std.proofs.Common.{◌-◌, ◌≤◌, length}
use Rattle.script.proofs.noting.note_fields.Given as goal

abbrev pub invariant-loop-word : goal.invariant-loop-word
invariant-loop-word l = l.at ≤ length l.line

abbrev pub decreases-loop-word : goal.decreases-loop-word
decreases-loop-word l = length l.line - l.at
