-- Call states: GSM 04.69, 9.4.2, table 9.3, and 24.068, 9.4.2. Values that have no row are reserved.
use Rattle.std.specs.Prelude.{ℕ, List, [], ◌∷◌, Option, Some, None}
use Rattle.octets.specs.Rows.{rows}
use Rattle.codes.specs.declared.protocol.Protocol.{Protocol}
use Rattle.codes.specs.declared.protocol.Protocol.TheVariants.{Broadcast, Group}
use Rattle.codes.specs.declared.state.State.{State}
use Rattle.codes.specs.declared.state.State.TheVariants.{U0, U0p, U1, U2, U3, U4, U5, U6, U2sl, U2wr, U2r, U2ws, U2sr, U2nc}

-- The states that a protocol has.
abbrev pub states_of : Protocol → List State
states_of Broadcast = U0 ∷ U0p ∷ U1 ∷ U2 ∷ U3 ∷ U4 ∷ U5 ∷ U6 ∷ []
states_of Group = U0 ∷ U0p ∷ U1 ∷ U2sl ∷ U2wr ∷ U2r ∷ U2ws ∷ U2sr ∷ U2nc ∷ U3 ∷ U4 ∷ U5 ∷ []

abbrev pub broadcast_states : List (ℕ × Option State)
broadcast_states =
    (0, Some U0) ∷
    (1, Some U1) ∷
    (2, Some U2) ∷
    (3, Some U3) ∷
    (4, Some U4) ∷
    (5, Some U5) ∷
    (6, Some U0p) ∷
    (7, Some U6) ∷
    []

abbrev pub group_states : List (ℕ × Option State)
group_states =
    (0, Some U0) ∷
    (1, Some U1) ∷
    (2, Some U2sl) ∷
    (3, Some U3) ∷
    (4, Some U4) ∷
    (5, Some U5) ∷
    (6, Some U0p) ∷
    (7, Some U2wr) ∷
    (8, Some U2r) ∷
    (9, Some U2ws) ∷
    (10, Some U2sr) ∷
    (11, Some U2nc) ∷
    []

abbrev pub call_states : Protocol → List (ℕ × Option State)
call_states Broadcast = broadcast_states
call_states Group = group_states

unfoldable pub call_state_of : Protocol → ℕ → Option State
call_state_of protocol code = rows code None (call_states protocol)

-- The same tables read the other way.
unfoldable pub call_state_code : State → ℕ
call_state_code U0 = 0
call_state_code U1 = 1
call_state_code U2 = 2
call_state_code U3 = 3
call_state_code U4 = 4
call_state_code U5 = 5
call_state_code U0p = 6
call_state_code U6 = 7
call_state_code U2sl = 2
call_state_code U2wr = 7
call_state_code U2r = 8
call_state_code U2ws = 9
call_state_code U2sr = 10
call_state_code U2nc = 11
