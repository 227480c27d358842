-- Any two outcomes that a public contract of this crate allows coincide.
use Prim.Native.Nat.{ℕ}
use mathlib.Core.Path.{◌≡◌}
use Rattle.octets.proofs.Coincide.{coincide}
use Rattle.codes.specs.declared.protocol.Protocol.TheVariants.{Group}
use Rattle.version.specs.declared.Table.TheVariants as Table
use Rattle.context.specs.declared.Context.{Context}
use Rattle.transitions.specs.declared.Decision.{Decision}
use Rattle.transitions.specs.Table.{rows_of, happened_in, decided_by}

pub happened_coincides : (context : Context) (number : ℕ) (r q : Decision) → r ≡ happened_in (rows_of Group Table.Group) context.state context number
    → q ≡ happened_in (rows_of Group Table.Group) context.state context number → r ≡ q
happened_coincides context number = coincide (happened_in (rows_of Group Table.Group) context.state context number)

pub heard_coincides : (context : Context) (code : ℕ) (r q : Decision) → r ≡ decided_by (rows_of Group Table.Group) context 18 code
    → q ≡ decided_by (rows_of Group Table.Group) context 18 code → r ≡ q
heard_coincides context code = coincide (decided_by (rows_of Group Table.Group) context 18 code)
