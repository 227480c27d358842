-- Any two outcomes that a public contract of this crate allows coincide.
use mathlib.Core.Path.{◌≡◌}
use Rattle.octets.proofs.Coincide.{coincide}
use Rattle.context.specs.declared.Context.{Context}
use Rattle.version.specs.declared.Table.{Table}
use Rattle.call.specs.declared.Due.{Due}
use Rattle.call.specs.declared.Event.{Event}
use Rattle.call.specs.declared.Settled.{Settled}
use Rattle.call.specs.Due.{settled}
use Rattle.call.specs.Step.{step_value}

pub step_coincides : (table : Table) (x : Context) (event : Event) (a b : Settled) → a ≡ step_value table x event → b ≡ step_value table x event → a ≡ b
step_coincides table x event a b = coincide (step_value table x event) a b

pub settle_coincides : (table : Table) (x : Context) (due : Due) (a b : Settled) → a ≡ settled table x due → b ≡ settled table x due → a ≡ b
settle_coincides table x due a b = coincide (settled table x due) a b
