-- Document 01's descriptor passes the tests, and what follows.
use Prim.Native.Nat.{◌≤◌}
use mathlib.Core.Path.{◌≡◌, refl, ◌∙◌}
use mathlib.Core.Bool.{true, not, ◌||◌}
use lib.Dec.{leb}
use Rattle.codes.specs.declared.state.State.{State}
use Rattle.codes.specs.declared.state.State.TheVariants.{U0}
use Rattle.codes.specs.declared.attributes.Parameters.{Parameters}
use Rattle.timer.specs.Timers.{running_among, with_timer, how_many}
use Rattle.context.specs.declared.Context.{Context}
use Rattle.context.specs.States.{same, among}
use Rattle.context.specs.Remembered.{remembering, returning}
use Rattle.context.specs.Talk.{no_talk}
use Rattle.context.specs.Context.{start_row, set_row, entering, cleared}
use Rattle.version.specs.declared.Table.{Table}
use Rattle.version.specs.declared.Table.TheVariants.{First, Second, Third, Group}
use Rattle.version.specs.Version.{protocol_of}
use Rattle.codes.specs.declared.protocol.Protocol.TheVariants.{Broadcast}
use Rattle.fitness.specs.Fitness.{consistent_by, timers_fit_by, remembered_fit_by, chooser_fit_by, pending_fit_by, talk_fit_by, is_cleared}
use Rattle.fitness.specs.Tables.{fitness_of, consistent, timers_fit, fit_of}
use Rattle.fitness.proofs.Fit as any
use Rattle.fitness.proofs.Sound as sound
use Rattle.fitness.proofs.Tested.{silent-fits}

pub fitness_sound : (table : Table) → sound.Sound (fitness_of table)
unfolding fitness_of protocol_of timers_fit_by remembered_fit_by chooser_fit_by pending_fit_by talk_fit_by consistent_by entering start_row set_row cleared returning remembering running_among with_timer
fitness_sound First = record { home = refl; one-timer = refl; quiet = refl; blank = refl; still = refl; entered = refl; pended = refl; sendable = refl; originating = refl }
fitness_sound Second = record { home = refl; one-timer = refl; quiet = refl; blank = refl; still = refl; entered = refl; pended = refl; sendable = refl; originating = refl }
fitness_sound Third = record { home = refl; one-timer = refl; quiet = refl; blank = refl; still = refl; entered = refl; pended = refl; sendable = refl; originating = refl }
fitness_sound Group = record { home = refl; one-timer = refl; quiet = refl; blank = refl; still = refl; entered = refl; pended = refl; sendable = refl; originating = refl }

module _ (table : Table) where
  -- At most one timer runs in a fit context.
  pub at_most_one : (x : Context) → fit_of table x ≡ true → how_many x.timers ≤ 1
  at_most_one = sound.one-runs (fitness_of table) (fitness_sound table)

  -- The parts of fitness, and back.
  module _ (x : Context) (fit : fit_of table x ≡ true) where
    pub fit-consistent : consistent table x.state x.parameters ≡ true
    fit-consistent = any.fit-consistent (fitness_of table) x fit

    pub fit-known : among x.state (fitness_of table).states ≡ true
    fit-known = any.fit-known (fitness_of table) x fit

    pub fit-value : leb x.value 6 ≡ true
    fit-value = any.fit-value (fitness_of table) x fit

    pub fit-timers : timers_fit table x.state x.timers ≡ true
    fit-timers = any.fit-timers (fitness_of table) x fit

    pub fit_remembered : remembered_fit_by (fitness_of table) x.state x.remembered ≡ true
    fit_remembered = any.fit_remembered (fitness_of table) x fit

    pub fit_talk : talk_fit_by (fitness_of table) x ≡ true
    fit_talk = any.fit_talk (fitness_of table) x fit

    -- A broadcast call keeps nothing of a group call.
    pub fit-silent : protocol_of table ≡ Broadcast → x.talk ≡ no_talk
    fit-silent e = any.silent_talk x.talk (silent-fits table x e ∙ fit_talk)

    -- A fit context in U0 is the cleared one.
    pub fit_u0 : x.state ≡ U0 → x ≡ cleared
    fit_u0 = any.fit_u0 (fitness_of table) x fit

  pub fit_made : (x : Context) → among x.state (fitness_of table).states ≡ true → consistent table x.state x.parameters ≡ true → leb x.value 6 ≡ true
      → (not (same x.state U0) || is_cleared x) ≡ true → timers_fit table x.state x.timers ≡ true
      → remembered_fit_by (fitness_of table) x.state x.remembered ≡ true → talk_fit_by (fitness_of table) x ≡ true → fit_of table x ≡ true
  fit_made = any.fit_made (fitness_of table)

  -- The parameters with which a state is entered are consistent with it.
  pub entering-consistent : (s : State) (p : Parameters) → consistent table s (entering s p) ≡ true
  entering-consistent = sound.entering-consistent (fitness_of table) (fitness_sound table)

  -- The cleared context is fit.
  pub cleared-fit : fit_of table cleared ≡ true
  cleared-fit = sound.cleared_sound (fitness_of table) (fitness_sound table)
