-- Any two outcomes that a public contract of this crate allows coincide.
use mathlib.Core.Path.{◌≡◌}
use mathlib.Core.Bool.{Bool, cond}
use Rattle.octets.proofs.Coincide.{coincide}
use Rattle.codes.specs.declared.state.State.TheVariants.{U0, U2, U3}
use Rattle.codes.specs.declared.protocol.Protocol.TheVariants.{Broadcast}
use Rattle.version.specs.declared.Table.{Table}
use Rattle.context.specs.declared.Context.{Context}
use Rattle.context.specs.Context.{cleared}
use Rattle.transitions.specs.declared.Decision.{Decision}
use Rattle.transitions.specs.declared.Decision.TheVariants.{NoStep}
use Rattle.transitions.specs.Table.{rows_of, happened_in}
use Rattle.row_parts.specs.Asked.{originating}

pub terminated_coincides : (table : Table) (orig : Bool) (a b : Decision) → a ≡ happened_in (rows_of Broadcast table) U2 (originating orig) 4
    → b ≡ happened_in (rows_of Broadcast table) U2 (originating orig) 4 → a ≡ b
terminated_coincides table orig a b = coincide (happened_in (rows_of Broadcast table) U2 (originating orig) 4) a b

pub where_true_coincides : (holds : Bool) (taken a b : Decision) → a ≡ cond holds taken NoStep → b ≡ cond holds taken NoStep → a ≡ b
where_true_coincides holds taken a b = coincide (cond holds taken NoStep) a b

pub notified_coincides : (table : Table) (a b : Decision) → a ≡ happened_in (rows_of Broadcast table) U0 cleared 10 → b ≡ happened_in (rows_of Broadcast table) U0 cleared 10 → a ≡ b
notified_coincides table a b = coincide (happened_in (rows_of Broadcast table) U0 cleared 10) a b

pub joined_coincides : (table : Table) (a b : Decision) → a ≡ happened_in (rows_of Broadcast table) U3 cleared 3 → b ≡ happened_in (rows_of Broadcast table) U3 cleared 3 → a ≡ b
joined_coincides table a b = coincide (happened_in (rows_of Broadcast table) U3 cleared 3) a b

pub forgotten_coincides : (table : Table) (x : Context) (a b : Decision) → a ≡ happened_in (rows_of Broadcast table) U3 x 19 → b ≡ happened_in (rows_of Broadcast table) U3 x 19 → a ≡ b
forgotten_coincides table x a b = coincide (happened_in (rows_of Broadcast table) U3 x 19) a b
