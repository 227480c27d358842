-- Any two outcomes that the contract of `heidezirkel_read_number` allows coincide. The other functions pass on: their laws stand in the crates that they call.
use Prim.Native.Nat.{ℕ}
use mathlib.Core.Path.{◌≡◌}
use mathlib.Core.List.{List}
use Rattle.octets.proofs.Coincide.{coincide}
use Rattle.septets.specs.Number.{number_at}
use Rattle.controller.specs.declared.numbering.NumberRead.{NumberRead}
use Rattle.controller.specs.Numbering.{number_shown}

pub read-number_coincides : (s : List ℕ) (at : ℕ) (a b : NumberRead) → a ≡ number_shown (number_at s at) → b ≡ number_shown (number_at s at) → a ≡ b
read-number_coincides s at = coincide (number_shown (number_at s at))
