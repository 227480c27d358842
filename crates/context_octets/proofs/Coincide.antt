-- Any two outcomes that a public contract of this crate allows coincide. The public functions: `read` and `write`.
use Prim.Native.Nat.{ℕ}
use mathlib.Core.Path.{◌≡◌}
use mathlib.Core.List.{List}
use Rattle.octets.proofs.Coincide.{coincide}
use Rattle.context.specs.declared.Context.{Context}
use Rattle.std.specs.Prelude.{Option}
use Rattle.context_octets.specs.Octets.{context_of, octets_of}

pub read_coincides : (s : List ℕ) (a b : Option Context) → a ≡ context_of s → b ≡ context_of s → a ≡ b
read_coincides s = coincide (context_of s)

pub write_coincides : (x : Context) (a b : List ℕ) → a ≡ octets_of x → b ≡ octets_of x → a ≡ b
write_coincides x = coincide (octets_of x)
