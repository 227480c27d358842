-- Document 01, "The context": what a state starts with, and the cleared context.
use Rattle.std.specs.Prelude.{ℕ, List, [], ◌∷◌, Bool, true, false, cond, get_or}
use Rattle.codes.specs.declared.state.State.{State}
use Rattle.codes.specs.declared.state.State.TheVariants.{U0}
use Rattle.codes.specs.declared.attributes.Parameters.{Parameters}
use Rattle.timer.specs.Timers.{no_timers}
use Rattle.context.specs.declared.Context.{Context}
use Rattle.context.specs.declared.Remembered.TheVariants.{Nothing}
use Rattle.context.specs.States.{number_of}
use Rattle.context.specs.Talk.{no_talk}

abbrev T : Bool
T = true

abbrev F : Bool
F = false

abbrev row : Bool → Bool → Bool → Bool → List Bool
row orig comm datt uatt = orig ∷ comm ∷ datt ∷ uatt ∷ []

-- ORIG, COMM, D-ATT, U-ATT when the state is entered, in the order of the states' numbers: GSM 04.69, 6.1.2.1.2 to 6.1.2.1.9, and for the sub-states of U2 24.068,
-- 6.1.2.1.9.1 to 6.1.2.1.9.6, where F stands for what is not set.
abbrev pub start_rows : List (List Bool)
start_rows =
    row F F F F ∷  -- 6.1.2.1.2, U0
    row T F F F ∷  -- 6.1.2.1.3, U0.p
    row T T F F ∷  -- 6.1.2.1.4, U1
    row T T T T ∷  -- 6.1.2.1.5, U2
    row F F F F ∷  -- 6.1.2.1.6, U3
    row F F F F ∷  -- 6.1.2.1.7, U4
    row T T T T ∷  -- 6.1.2.1.8, U5
    row F F T F ∷  -- 6.1.2.1.9, U6
    row F T T T ∷  -- 24.068, 6.1.2.1.9.1, U2sl
    row F T T F ∷  -- 6.1.2.1.9.2, U2wr
    row F F T F ∷  -- 6.1.2.1.9.3, U2r
    row F F T T ∷  -- 6.1.2.1.9.4, U2ws
    row F F T T ∷  -- 6.1.2.1.9.5, U2sr
    row F F T T ∷  -- 6.1.2.1.9.6, U2nc
    []

-- Which of them the state sets. The sub-states of U2 say nothing of ORIG, and U2sr nothing of COMM: these keep what they were.
abbrev pub set_rows : List (List Bool)
set_rows =
    row T T T T ∷  -- U0
    row T T T T ∷  -- U0.p
    row T T T T ∷  -- U1
    row T T T T ∷  -- U2
    row T T T T ∷  -- U3
    row T T T T ∷  -- U4
    row T T T T ∷  -- U5
    row T T T T ∷  -- U6
    row F T T T ∷  -- U2sl
    row F T T T ∷  -- U2wr
    row F T T T ∷  -- U2r
    row F T T T ∷  -- U2ws
    row F F T T ∷  -- U2sr
    row F T T T ∷  -- U2nc
    []

-- A row as parameters.
abbrev pub parameters_in : List Bool → Parameters
parameters_in r = record { orig = get_or r 0 false; comm = get_or r 1 false; datt = get_or r 2 false; uatt = get_or r 3 false }

-- The row of a number.
abbrev pub start_row_at : ℕ → Parameters
start_row_at n = parameters_in (get_or start_rows n [])

-- The row of a state.
unfoldable pub start_row : State → Parameters
start_row s = start_row_at (number_of s)

-- What is set, and what is kept of what they were.
abbrev pub set_or_kept : (sets row before : Parameters) → Parameters
set_or_kept sets row before = record {
  orig = cond sets.orig row.orig before.orig;
  comm = cond sets.comm row.comm before.comm;
  datt = cond sets.datt row.datt before.datt;
  uatt = cond sets.uatt row.uatt before.uatt;
}

abbrev pub set_row_at : ℕ → Parameters
set_row_at n = parameters_in (get_or set_rows n [])

unfoldable pub set_row : State → Parameters
set_row s = set_row_at (number_of s)

-- The parameters where a state is entered, by what they were before.
unfoldable pub entering : State → Parameters → Parameters
entering s before = set_or_kept (set_row s) (start_row s) before

-- Cleared means U0, parameters false, no timer, value 0, reference zero; nothing remembered, and nothing of a group call.
unfoldable pub cleared : Context
cleared = record {
  state = U0;
  parameters = record { orig = false; comm = false; datt = false; uatt = false };
  timers = no_timers;
  value = 0;
  reference = record { first = 0; second = 0; third = 0; fourth = 0 };
  remembered = Nothing;
  talk = no_talk;
}
