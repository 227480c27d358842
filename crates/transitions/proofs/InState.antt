-- A table in a context is the table in the context's state; what is no message goes by its number alone.
use Prim.Native.Nat.{ℕ}
use mathlib.Core.Path.{◌≡◌, sym, ap, subst, ◌∙◌}
use mathlib.Core.List.{List, []}
use borrow.Author.Tests.{ne_eqb}
use Rattle.codes.specs.declared.state.State.{State}
use Rattle.context.specs.declared.Context.{Context}
use Rattle.octets.specs.Rows.{rows}
use Rattle.transitions.specs.declared.Decision.{Decision}
use Rattle.transitions.specs.declared.Decision.TheVariants.{NoStep}
use Rattle.codes.specs.declared.protocol.Protocol.TheVariants as Protocol
use Rattle.codes.specs.declared.protocol.Protocol.TheVariants.{Broadcast}
use Rattle.version.specs.declared.Table.{Table}
use Rattle.version.specs.declared.Table.TheVariants.{Group}
use Rattle.version.specs.Version.{protocol_of}
use Rattle.version.proofs.Tables.{only_group}
use Rattle.transitions.specs.Table.{Row, events_in, rows_of, step_table, heard_in, happened_in, decided_in, decided_by, decided_of}

pub heard_in_state : (table : List Row) (s : State) (x : Context) (code : ℕ) (d : Decision) → x.state ≡ s → d ≡ heard_in table s x code → d ≡ decided_by table x 18 code
unfolding decided_by decided_in
heard_in_state table s x code d e p = p ∙ ap (λ (t : State). heard_in table t x code) (sym e)

pub happened_in_state : (table : List Row) (s : State) (x : Context) (number : ℕ) (d : Decision) → x.state ≡ s → d ≡ happened_in table s x number
    → d ≡ happened_in table x.state x number
happened_in_state table s x number d e p = p ∙ ap (λ (t : State). happened_in table t x number) (sym e)

pub no_message : (table : List Row) (x : Context) (number code : ℕ) (d : Decision) → (number ≡ 18 → ⊥) → d ≡ happened_in table x.state x number
    → d ≡ decided_by table x number code
unfolding decided_by decided_in
no_message table x number code d n p = rw (ne_eqb number 18 n) p

-- A table of a broadcast call has the rows of one, and that of a group call is one table.
module _ (table : Table) (x : Context) (number : ℕ) (d : Decision) where
  pub heard_broadcast : (code : ℕ) → protocol_of table ≡ Broadcast → d ≡ decided_by (rows_of Broadcast table) x number code → d ≡ decided_of table x number code
  unfolding step_table
  heard_broadcast code e p = rw e p

  pub heard-group : (code : ℕ) → protocol_of table ≡ Protocol.Group → d ≡ decided_by (rows_of Protocol.Group Group) x number code → d ≡ decided_of table x number code
  unfolding step_table protocol_of
  heard-group code e p = subst (λ (t : Table). d ≡ decided_by (rows_of (protocol_of t) t) x number code) (sym (only_group table e)) p

  pub happened_broadcast : protocol_of table ≡ Broadcast → d ≡ happened_in (rows_of Broadcast table) x.state x number → d ≡ happened_in (step_table table) x.state x number
  unfolding step_table
  happened_broadcast e p = rw e p

  pub happened-group : protocol_of table ≡ Protocol.Group → d ≡ happened_in (rows_of Protocol.Group Group) x.state x number → d ≡ happened_in (step_table table) x.state x number
  unfolding step_table protocol_of
  happened-group e p = subst (λ (t : Table). d ≡ happened_in (rows_of (protocol_of t) t) x.state x number) (sym (only_group table e)) p

-- In a state that no row of events names, an event has no step.
pub rowless : (table : List Row) (s : State) (x : Context) (number : ℕ) → x.state ≡ s → events_in s x table ≡ [] → NoStep ≡ happened_in table x.state x number
unfolding happened_in
rowless table s x number e none = happened_in_state table s x number NoStep e (sym (ap (λ (found : List (ℕ × Decision)). rows number NoStep found) none))
