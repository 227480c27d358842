-- Fitness in the order in which the code tests it.
use mathlib.Core.Path.{◌≡◌, refl, sym}
use mathlib.Core.Bool.{Bool, true, false, not, ◌&&◌, ◌||◌}
use lib.Dec.{eqb, leb}
use Rattle.codes.specs.declared.state.State.TheVariants.{U0}
use Rattle.codes.specs.declared.protocol.Protocol.TheVariants as Protocol
use Rattle.context.specs.declared.Context.{Context}
use Rattle.context.specs.States.{same}
use Rattle.context.specs.Talk.{chooser_number}
use Rattle.version.specs.declared.Table.{Table}
use Rattle.version.specs.Version.{protocol_of}
use Rattle.fitness.specs.Fitness.{remembered_fit_by, chooser_fit_by, pending_fit_by, is_silent, talk_fit_by, is_cleared, fit_by}
use Rattle.fitness.specs.Tables.{fitness_of, state_fits, timers_fit, fit_of}

-- Among one state.
pub one_state : (b : Bool) → b ≡ (b || false)
one_state true = refl
one_state false = refl

-- A row that has no states is obeyed where what it is about is not so.
pub none_allowed : (b c : Bool) → (not b || (false && c)) ≡ not b
none_allowed true c = refl
none_allowed false c = refl

-- Where neither chose a value and nothing is pending, that is what a broadcast call keeps.
pub silent-fits : (table : Table) (x : Context) → protocol_of table ≡ Protocol.Broadcast → is_silent x.talk ≡ talk_fit_by (fitness_of table) x
unfolding talk_fit_by chooser_fit_by pending_fit_by fitness_of
silent-fits table x e =
    rw (
      e,
      sym (one_state (eqb (chooser_number x.talk.chooser) 0)),
      none_allowed x.talk.termination _,
      none_allowed x.talk.status _,
      none_allowed x.talk.awaiting _,
    )

module _ (table : Table) where
  module _ (x : Context) where
    abbrev rest_fits : Bool
    rest_fits = timers_fit table x.state x.timers && (remembered_fit_by (fitness_of table) x.state x.remembered && talk_fit_by (fitness_of table) x)

    pub inconsistent : state_fits table x.state x.parameters ≡ false → false ≡ fit_of table x
    unfolding fit_by
    inconsistent e = rw e

    module _ (c : state_fits table x.state x.parameters ≡ true) where
      pub value_over : leb x.value 6 ≡ false → false ≡ fit_of table x
      unfolding fit_by
      value_over e = rw (c, e)

      module _ (v : leb x.value 6 ≡ true) (fits : Bool) (t : fits ≡ rest_fits) where
        pub in_u0 : same x.state U0 ≡ true → (clear : Bool) → clear ≡ is_cleared x → (clear && fits) ≡ fit_of table x
        unfolding fit_by
        in_u0 s clear e = rw (c, v, s, e, t)

        pub elsewhere : same x.state U0 ≡ false → fits ≡ fit_of table x
        unfolding fit_by
        elsewhere s = rw (c, v, s, t)
