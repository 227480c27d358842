-- Where a termination was asked from. "The context must remember which": nothing, U1 or U2; in a group call "the state or sub-state the request was sent from", which
-- is U1 or one of the sub-states in which COMM can be true.
use Rattle.std.specs.Prelude.{ℕ, Bool, true, false}
use Rattle.codes.specs.declared.state.State.{State}
use Rattle.codes.specs.declared.state.State.TheVariants.{U0, U0p, U1, U2, U3, U4, U5, U6, U2sl, U2wr, U2r, U2ws, U2sr, U2nc}
use Rattle.context.specs.declared.Remembered.{Remembered}

-- As a number: that of the state in a log, and 0 for nothing.
unfoldable pub remembered_number : Remembered → ℕ
remembered_number Remembered.Nothing = 0
remembered_number Remembered.U1 = 2
remembered_number Remembered.U2 = 3
remembered_number Remembered.U2sl = 8
remembered_number Remembered.U2wr = 9
remembered_number Remembered.U2ws = 11
remembered_number Remembered.U2sr = 12

-- Something is remembered.
abbrev pub is_something : Remembered → Bool
is_something Remembered.Nothing = false
is_something Remembered.U1 = true
is_something Remembered.U2 = true
is_something Remembered.U2sl = true
is_something Remembered.U2wr = true
is_something Remembered.U2ws = true
is_something Remembered.U2sr = true

-- What is remembered where a termination is asked from a state.
unfoldable pub remembering : State → Remembered
remembering U0 = Remembered.Nothing
remembering U0p = Remembered.Nothing
remembering U1 = Remembered.U1
remembering U2 = Remembered.U2
remembering U3 = Remembered.Nothing
remembering U4 = Remembered.Nothing
remembering U5 = Remembered.Nothing
remembering U6 = Remembered.Nothing
remembering U2sl = Remembered.U2sl
remembering U2wr = Remembered.U2wr
remembering U2r = Remembered.Nothing
remembering U2ws = Remembered.U2ws
remembering U2sr = Remembered.U2sr
remembering U2nc = Remembered.Nothing

-- The state that is returned to; where nothing is remembered, the one that is.
unfoldable pub returning : Remembered → State → State
returning Remembered.Nothing here = here
returning Remembered.U1 here = U1
returning Remembered.U2 here = U2
returning Remembered.U2sl here = U2sl
returning Remembered.U2wr here = U2wr
returning Remembered.U2ws here = U2ws
returning Remembered.U2sr here = U2sr
