-- Any two outcomes that a public contract of this crate allows coincide.
use Prim.Native.Nat.{ℕ}
use mathlib.Core.Path.{◌≡◌}
use mathlib.Core.List.{List}
use Rattle.octets.proofs.Coincide.{coincide}
use Rattle.version.specs.declared.Table.{Table}
use Rattle.context.specs.declared.Context.{Context}
use Rattle.call.specs.declared.Due.{Due}
use Rattle.received.specs.Due.{due_of}

pub listen_coincides : (table : Table) (identity : List ℕ) (x : Context) (mode : ℕ) (s : List ℕ) (a b : Due) → a ≡ due_of table identity x mode s → b ≡ due_of table identity x mode s → a ≡ b
listen_coincides table identity x mode s a b = coincide (due_of table identity x mode s) a b
