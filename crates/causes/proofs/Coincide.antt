-- Any two outcomes that a public contract of this crate allows coincide.
use Prim.Native.Nat.{ℕ}
use mathlib.Core.Path.{◌≡◌}
use Rattle.octets.proofs.Coincide.{coincide}
use Rattle.causes.specs.declared.Cause.{Cause}
use Rattle.causes.specs.Causes.{cause_of, cause_said}

pub cause_of_coincides : (number : ℕ) (a b : Cause) → a ≡ cause_of number → b ≡ cause_of number → a ≡ b
cause_of_coincides number a b = coincide (cause_of number) a b

pub cause_said_coincides : (first : ℕ) (a b : Cause) → a ≡ cause_said first → b ≡ cause_said first → a ≡ b
cause_said_coincides first a b = coincide (cause_said first) a b
