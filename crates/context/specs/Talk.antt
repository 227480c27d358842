-- What only a group call keeps, and the flag that it decides.
use Rattle.std.specs.Prelude.{ℕ, [], ◌∷◌, Bool, true, false}
use Rattle.codes.specs.declared.state.State.{State}
use Rattle.codes.specs.declared.state.State.TheVariants.{U0p, U1, U2, U5}
use Rattle.context.specs.declared.Chooser.{Chooser}
use Rattle.context.specs.declared.Chooser.TheVariants.{Neither, Us, Cell}
use Rattle.context.specs.declared.Talk.{Talk}
use Rattle.context.specs.declared.Context.{Context}
use Rattle.context.specs.States.{among}

-- Nothing: neither side chose a value, nothing is pending, no value is awaited.
abbrev pub no_talk : Talk
no_talk = record { chooser = Neither; termination = false; status = false; awaiting = false }

abbrev pub chooser_number : Chooser → ℕ
chooser_number Neither = 0
chooser_number Us = 1
chooser_number Cell = 2

-- Document 01, "Received messages", rule 1: flag 1 in U0.p, U1, U2, U5 and flag 0 in U3, U4, U6.
unfoldable pub flag_in : State → Bool
flag_in s = among s (U0p ∷ U1 ∷ U2 ∷ U5 ∷ [])

-- A group call "remembers which side chose its transaction value": "flag 1 is expected if we did, 0 if the cell did, in the sub-states of U2 and in U5 too".
unfoldable pub flag_by : Chooser → State → Bool
flag_by Neither s = flag_in s
flag_by Us s = true
flag_by Cell s = false

unfoldable pub flag_of : Context → Bool
flag_of x = flag_by x.talk.chooser x.state
