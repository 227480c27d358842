-- Any two outcomes that a public contract of this crate allows coincide.
use Prim.Native.Nat.{ℕ}
use mathlib.Core.Path.{◌≡◌}
use mathlib.Core.List.{List}
use Rattle.octets.proofs.Coincide.{coincide}
use Rattle.std.specs.Prelude.{Option, Result}
use Rattle.element.specs.declared.Miscount.{Miscount}
use Rattle.octets.specs.declared.Run.{Run}
use Rattle.element.specs.Elements.{element_from}
use Rattle.element.specs.Counted.{counted_at}

pub seek_coincides : (s : List ℕ) (from low high : ℕ) (a b : Option (ℕ × ℕ)) → a ≡ element_from s from low high → b ≡ element_from s from low high → a ≡ b
seek_coincides s from low high a b = coincide (element_from s from low high) a b

pub counted_at_coincides : (s : List ℕ) (at low high : ℕ) (a b : Result Run Miscount) → a ≡ counted_at s at low high → b ≡ counted_at s at low high → a ≡ b
counted_at_coincides s at low high a b = coincide (counted_at s at low high) a b
