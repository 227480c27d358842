-- Which timer always runs in which state: computed, of all timers that fit it. So a visit to such a state is one run of its timer.
use Prim.Native.Nat.{ℕ}
use mathlib.Core.Path.{◌≡◌, refl, subst}
use mathlib.Core.Bool.{Bool, true, not, ◌||◌}
use mathlib.Core.List.{List}
use lib.Dec.{eqb}
use borrow.Author.Tests.{eqb-true, eq-eqb}
use Rattle.codes.specs.declared.state.State.{State}
use Rattle.codes.specs.declared.state.State.TheVariants.{U0p, U3, U4, U5}
use Rattle.timer.specs.declared.Timer.{Timer}
use Rattle.timer.specs.declared.Timer.TheVariants.{MmEst, Term, ConnReq, Pres}
use Rattle.timer.specs.declared.Timers.{Timers}
use Rattle.timer.specs.Timers.{timer_number, running_among}
use Rattle.context.specs.declared.Context.{Context}
use Rattle.context.specs.Running.{runs}
use Rattle.context.specs.States.{number_of}
use Rattle.context.proofs.States.{same-state}
use Rattle.context.proofs.Whole.{if_so, of_timers, at_timers}
use Rattle.fitness.specs.Fitness.{timers_fit_by}
use Rattle.fitness.specs.Tables.{fitness_of, timers_fit, fit_of}
use Rattle.fitness.proofs.Tables.{fit-timers}
use Rattle.message.specs.declared.Own.{Own}
use Rattle.version.specs.declared.Table.{Table}
use Rattle.version.specs.declared.Table.TheVariants.{First, Second, Third, Group}
use Rattle.version.specs.Version.{protocol_of}
use Rattle.waiting.proofs.Run.{Runs}

-- Where timers fit the state, this one runs.
abbrev pub runs_in : Table → State → Timer → Timers → Bool
runs_in table state k t = not (timers_fit table state t) || eqb (running_among t) (timer_number k)

-- It always runs there.
abbrev pub Always : Table → State → Timer → Type 0
Always table state k = of_timers (runs_in table state k) ≡ true

pub mm_est_in_u0p : (table : Table) → Always table U0p MmEst
unfolding timers_fit_by fitness_of protocol_of running_among
mm_est_in_u0p First = refl
mm_est_in_u0p Second = refl
mm_est_in_u0p Third = refl
mm_est_in_u0p Group = refl

pub conn_req_in_u4 : (table : Table) → Always table U4 ConnReq
unfolding timers_fit_by fitness_of protocol_of running_among
conn_req_in_u4 First = refl
conn_req_in_u4 Second = refl
conn_req_in_u4 Third = refl
conn_req_in_u4 Group = refl

-- By the second table and the third; by the first T_term may be stopped there.
pub term_in_u5_second : Always Second U5 Term
unfolding timers_fit_by fitness_of protocol_of running_among
term_in_u5_second = refl

pub term_in_u5_third : Always Third U5 Term
unfolding timers_fit_by fitness_of protocol_of running_among
term_in_u5_third = refl

-- By the third table alone.
pub pres_in_u3 : Always Third U3 Pres
unfolding timers_fit_by fitness_of protocol_of running_among
pres_in_u3 = refl

module _ (table : Table) (state : State) (k : Timer) (always : Always table state k) where
  always-runs : (x : Context) → fit_of table x ≡ true → number_of x.state ≡ number_of state → runs x ≡ timer_number k
  always-runs x fit e =
      let here : x.state ≡ state = same-state x.state state (eq-eqb _ _ e) in
      let fits : timers_fit table state x.timers ≡ true = subst (λ (s : State). timers_fit table s x.timers ≡ true) here (fit-timers table x fit) in
      eqb-true _ _ (if_so (timers_fit table state x.timers) _ (at_timers (runs_in table state k) always x.timers) fits)

  -- A visit to the state is one run of the timer.
  pub one-run : (own : Own) (identity : List ℕ)
      → Runs table own identity (timer_number k) (λ x. number_of x.state ≡ number_of state) (λ event s. s ≡ number_of state) (λ event s. s ≡ number_of state)
  one-run own identity = record { running = always-runs; begun = λ x e fit there. there; kept = λ x e fit on there. there }
