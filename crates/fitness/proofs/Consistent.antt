-- Consistency asks about two of the four parameters.
use mathlib.Core.Path.{◌≡◌, refl}
use mathlib.Core.Bool.{false}
use Rattle.codes.specs.declared.state.State.{State}
use Rattle.codes.specs.declared.attributes.Parameters.{Parameters}
use Rattle.version.specs.declared.Table.{Table}
use Rattle.fitness.specs.Fitness.{consistent_by}
use Rattle.fitness.specs.Tables.{fitness_of, consistent, state_fits}

module _ (table : Table) where
  pub by_two : (s : State) (p : Parameters) → consistent table s p ≡ consistent table s (record { orig = p.orig; comm = p.comm; datt = false; uatt = false })
  unfolding consistent_by fitness_of
  by_two s p = refl

  pub state-by_two : (s : State) (p : Parameters) → state_fits table s p ≡ state_fits table s (record { orig = p.orig; comm = p.comm; datt = false; uatt = false })
  unfolding consistent_by fitness_of
  state-by_two s p = refl
