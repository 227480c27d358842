-- Document 01, "The context": which contexts are fit, by a descriptor that a reader can lay beside the paper.
use Rattle.std.specs.Prelude.{List, [], ◌∷◌, Bool, true, false, cond, not, ◌&&◌, ◌||◌, eqb, leb}
use Rattle.codes.specs.declared.state.State.{State}
use Rattle.codes.specs.declared.state.State.TheVariants.{U0}
use Rattle.codes.specs.declared.attributes.Parameters.{Parameters}
use Rattle.octets.specs.declared.Reference.{Reference}
use Rattle.timer.specs.declared.Timer.{Timer}
use Rattle.timer.specs.declared.Timers.{Timers}
use Rattle.timer.specs.Timers.{same_timer, is_on, of_each}
use Rattle.context.specs.declared.Context.{Context}
use Rattle.context.specs.declared.Chooser.{Chooser}
use Rattle.context.specs.declared.Chooser.TheVariants.{Neither}
use Rattle.context.specs.declared.Remembered.{Remembered}
use Rattle.context.specs.declared.Talk.{Talk}
use Rattle.context.specs.Remembered.{is_something, returning}
use Rattle.context.specs.States.{same, among}
use Rattle.context.specs.Talk.{chooser_number}

-- When a timer runs in a state.
pub data Runs : Type 0 where
  always : Runs
  optionally : Runs
  never : Runs

-- The four parameters.
pub data Parameter : Type 0 where
  ORIG : Parameter
  COMM : Parameter
  D-ATT : Parameter
  U-ATT : Parameter

-- The descriptor: the states that there are; of each timer the states in which it runs, of each parameter the states in which true is wrong, and the states in which
-- something is remembered; in no other is anything. Of a group call: which side may have chosen the value in which state (in a state without a row neither has), and
-- the states in which a termination request may be pending, in which a STATUS may be, and in which a value may be awaited.
pub record Fitness : Type 0 where
  pub states : List State
  pub timers : List (Timer × List (State × Runs))
  pub wrong : List (Parameter × List State)
  pub remembering : List State
  pub choosers : List (State × List Chooser)
  pub requesting : List State
  pub asked : List State
  pub awaiting : List State

abbrev pub is_set : Parameter → Parameters → Bool
is_set ORIG p = p.orig
is_set COMM p = p.comm
is_set D-ATT p = p.datt
is_set U-ATT p = p.uatt

-- Beside what is right so far, no parameter is true where that is wrong.
abbrev pub none_wrong : State → Parameters → Bool → List (Parameter × List State) → Bool
none_wrong s p right [] = right
none_wrong s p right (w ∷ more) = none_wrong s p (right && not (among s w.1 && is_set w.0 p)) more

-- The parameters are consistent with the state.
unfoldable pub consistent_by : Fitness → State → Parameters → Bool
consistent_by d s p = none_wrong s p true d.wrong

abbrev pub obeys : Runs → Bool → Bool
obeys always running = running
obeys optionally running = true
obeys never running = not running

-- The states of a timer's row; it runs in no other.
abbrev pub in_row : State → List (State × Runs) → Runs
in_row s [] = never
in_row s (x ∷ xs) = cond (same s x.0) x.1 (in_row s xs)

-- When a timer runs in a state; one that has no row runs in none.
abbrev pub when_runs : Timer → State → List (Timer × List (State × Runs)) → Runs
when_runs k s [] = never
when_runs k s (r ∷ more) = cond (same_timer k r.0) (in_row s r.1) (when_runs k s more)

-- The timers obey the table.
unfoldable pub timers_fit_by : Fitness → State → Timers → Bool
timers_fit_by d s t = of_each (λ k. obeys (when_runs k s d.timers) (is_on k t))

abbrev nothing_set : Parameters → Bool
nothing_set p = not p.orig && (not p.comm && (not p.datt && not p.uatt))

abbrev pub nothing_runs : Timers → Bool
nothing_runs t = of_each (λ k. not (is_on k t))

abbrev zero : Reference → Bool
zero r = eqb r.first 0 && (eqb r.second 0 && (eqb r.third 0 && eqb r.fourth 0))

-- Something is remembered exactly where the table says so, and is a state of the table.
unfoldable pub remembered_fit_by : Fitness → State → Remembered → Bool
remembered_fit_by d s r = cond (among s d.remembering) (is_something r && among (returning r s) d.states) (not (is_something r))

abbrev pub among_choosers : Chooser → List Chooser → Bool
among_choosers c [] = false
among_choosers c (x ∷ xs) = eqb (chooser_number c) (chooser_number x) || among_choosers c xs

-- Who may have chosen the value in a state.
abbrev pub choosers_in : State → List (State × List Chooser) → List Chooser
choosers_in s [] = Neither ∷ []
choosers_in s (r ∷ more) = cond (same s r.0) r.1 (choosers_in s more)

-- Whoever chose the value is one who may have, in the state that is returned to where one is remembered.
unfoldable pub chooser_fit_by : Fitness → State → Remembered → Chooser → Bool
chooser_fit_by d s r c = among_choosers c (choosers_in (returning r s) d.choosers)

-- A termination request is pending in its states only, and not where ORIG and COMM are both true, since then it is sent; a STATUS in its own, and not where COMM is true;
-- a value is awaited in its own, and not where ORIG is true.
unfoldable pub pending_fit_by : Fitness → State → Parameters → Talk → Bool
pending_fit_by d s p k =
    (not k.termination || (among s d.requesting && not (p.orig && p.comm))) &&
    ((not k.status || (among s d.asked && not p.comm)) &&
    (not k.awaiting || (among s d.awaiting && not p.orig)))

unfoldable pub talk_fit_by : Fitness → Context → Bool
talk_fit_by d x = chooser_fit_by d x.state x.remembered x.talk.chooser && pending_fit_by d x.state x.parameters x.talk

-- Nothing of a group call.
abbrev pub is_silent : Talk → Bool
is_silent k = eqb (chooser_number k.chooser) 0 && (not k.termination && (not k.status && not k.awaiting))

-- Parameters false, no timer, value 0, reference zero, nothing remembered, nothing of a group call.
unfoldable pub is_cleared : Context → Bool
is_cleared x =
    nothing_set x.parameters &&
    (nothing_runs x.timers &&
    (eqb x.value 0 &&
    (zero x.reference &&
    (not (is_something x.remembered) &&
    is_silent x.talk))))

-- A context is fit if its state is one of the table's, it is consistent, its value is at most 6, U0 is cleared, and timers, what is remembered and what a group call
-- keeps obey the table.
unfoldable pub fit_by : Fitness → Context → Bool
fit_by d x =
    (among x.state d.states && consistent_by d x.state x.parameters) &&
    (leb x.value 6 &&
    ((not (same x.state U0) || is_cleared x) &&
    (timers_fit_by d x.state x.timers &&
    (remembered_fit_by d x.state x.remembered &&
    talk_fit_by d x))))
