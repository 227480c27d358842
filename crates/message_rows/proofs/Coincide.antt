-- Any two outcomes that a public contract of this crate allows coincide.
use Prim.Native.Nat.{ℕ}
use mathlib.Core.Path.{◌≡◌}
use Rattle.octets.proofs.Coincide.{coincide}
use Rattle.context.specs.declared.Context.{Context}
use Rattle.transitions.specs.declared.Decision.{Decision}
use Rattle.version.specs.declared.Table.{Table}
use Rattle.transitions.specs.Table.{decided_of}

pub decide_coincides : (table : Table) (x : Context) (code : ℕ) (a b : Decision) → a ≡ decided_of table x 18 code → b ≡ decided_of table x 18 code → a ≡ b
decide_coincides table x code a b = coincide (decided_of table x 18 code) a b
