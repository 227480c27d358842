-- The states of the mobile station's side, and lists of them.
use Rattle.std.specs.Prelude.{ℕ, List, [], ◌∷◌, Bool, false, ◌||◌, eqb}
use Rattle.codes.specs.declared.state.State.{State}
use Rattle.codes.specs.declared.state.State.TheVariants.{U0, U0p, U1, U2, U3, U4, U5, U6, U2sl, U2wr, U2r, U2ws, U2sr, U2nc}

-- Document 01, "The log": state, 0 to 7 for U0, U0.p, U1, U2, U3, U4, U5, U6. Group calls have "state numbers from 8 on for the sub-states of U2 in 002's order".
abbrev pub number_of : State → ℕ
number_of U0 = 0
number_of U0p = 1
number_of U1 = 2
number_of U2 = 3
number_of U3 = 4
number_of U4 = 5
number_of U5 = 6
number_of U6 = 7
number_of U2sl = 8
number_of U2wr = 9
number_of U2r = 10
number_of U2ws = 11
number_of U2sr = 12
number_of U2nc = 13

-- The same state.
abbrev pub same : State → State → Bool
same a b = eqb (number_of a) (number_of b)

-- The state is one of a list.
abbrev pub among : State → List State → Bool
among s [] = false
among s (x ∷ xs) = same s x || among s xs
