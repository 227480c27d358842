-- Any two outcomes that a public contract of this crate allows coincide.
use mathlib.Core.Path.{◌≡◌}
use mathlib.Core.Bool.{Bool}
use Rattle.octets.proofs.Coincide.{coincide}
use Rattle.codes.specs.declared.state.State.{State}
use Rattle.codes.specs.declared.attributes.Parameters.{Parameters}
use Rattle.context.specs.declared.Context.{Context}
use Rattle.version.specs.declared.Table.{Table}
use Rattle.fitness.specs.Fitness.{consistent_by, fit_by}
use Rattle.fitness.specs.Tables.{fitness_of}

module _ (table : Table) where
  pub is_consistent_coincides : (s : State) (p : Parameters) (a b : Bool) → a ≡ consistent_by (fitness_of table) s p → b ≡ consistent_by (fitness_of table) s p → a ≡ b
  is_consistent_coincides s p a b = coincide (consistent_by (fitness_of table) s p) a b

  pub is_fit_coincides : (x : Context) (a b : Bool) → a ≡ fit_by (fitness_of table) x → b ≡ fit_by (fitness_of table) x → a ≡ b
  is_fit_coincides x a b = coincide (fit_by (fitness_of table) x) a b
