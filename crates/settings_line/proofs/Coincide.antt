-- Any two outcomes that a public contract of this crate allows coincide. The public functions: `with_line`.
use Prim.Native.Nat.{ℕ}
use mathlib.Core.Path.{◌≡◌}
use mathlib.Core.List.{List}
use Rattle.std.specs.Prelude.{Result}
use Rattle.octets.proofs.Coincide.{coincide}
use Rattle.settings_line.specs.declared.Fault.{Fault}
use Rattle.settings_line.specs.declared.Seen.{Seen}
use Rattle.settings_line.specs.Line.{setting_of, turn_of}

pub with_line_coincides : (seen : Seen) (line : List ℕ) (a b : Result Seen Fault) → a ≡ turn_of seen (setting_of line) → b ≡ turn_of seen (setting_of line) → a ≡ b
with_line_coincides seen line = coincide (turn_of seen (setting_of line))
