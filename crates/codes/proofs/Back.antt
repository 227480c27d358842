-- The codes read back: what a state or the parameters are written as says that state or those parameters.
use Prim.Native.Nat.{ℕ, ◌<◌}
use mathlib.Core.Path.{◌≡◌, refl}
use mathlib.Core.List.{List, [], ◌∷◌}
use mathlib.Core.Bool.{Bool, true, false}
use native.Mathlib.Omega.{arith}
use Rattle.codes.specs.declared.protocol.Protocol.{Protocol}
use Rattle.codes.specs.declared.protocol.Protocol.TheVariants.{Broadcast, Group}
use Rattle.codes.specs.declared.state.State.{State}
use Rattle.codes.specs.declared.state.State.TheVariants.{U0, U0p, U1, U2, U3, U4, U5, U6, U2sl, U2wr, U2r, U2ws, U2sr, U2nc}
use Rattle.std.specs.Prelude.{Some}
use Rattle.codes.specs.declared.attributes.Parameters.{Parameters}
use Rattle.codes.specs.CallStates.{states_of, call_state_of, call_state_code}
use Rattle.codes.specs.Attributes.{parameters_of, attributes_of, weighs}

-- What holds of every state of a list.
abbrev Each : (State → Type 0) → List State → Type 0
Each P [] = Unit {0}
Each P (s ∷ more) = P s × Each P more

-- Each state that a protocol has.
pub state-back : (protocol : Protocol) → Each (λ s. call_state_of protocol (call_state_code s) ≡ Some s) (states_of protocol)
unfolding call_state_of call_state_code
state-back Broadcast = (refl, (refl, (refl, (refl, (refl, (refl, (refl, (refl, tt))))))))
state-back Group = (refl, (refl, (refl, (refl, (refl, (refl, (refl, (refl, (refl, (refl, (refl, (refl, tt))))))))))))

pub state_code_fits : (state : State) → call_state_code state < 16
unfolding call_state_code
state_code_fits U0 = omega arith
state_code_fits U0p = omega arith
state_code_fits U1 = omega arith
state_code_fits U2 = omega arith
state_code_fits U3 = omega arith
state_code_fits U4 = omega arith
state_code_fits U5 = omega arith
state_code_fits U6 = omega arith
state_code_fits U2sl = omega arith
state_code_fits U2wr = omega arith
state_code_fits U2r = omega arith
state_code_fits U2ws = omega arith
state_code_fits U2sr = omega arith
state_code_fits U2nc = omega arith

abbrev four : Bool → Bool → Bool → Bool → Parameters
four orig comm datt uatt = record { orig = orig; comm = comm; datt = datt; uatt = uatt }

each : (orig comm datt uatt : Bool) → parameters_of (attributes_of (four orig comm datt uatt)) ≡ four orig comm datt uatt
unfolding parameters_of attributes_of weighs
each true true true true = refl
each true true true false = refl
each true true false true = refl
each true true false false = refl
each true false true true = refl
each true false true false = refl
each true false false true = refl
each true false false false = refl
each false true true true = refl
each false true true false = refl
each false true false true = refl
each false true false false = refl
each false false true true = refl
each false false true false = refl
each false false false true = refl
each false false false false = refl

pub parameters-back : (p : Parameters) → parameters_of (attributes_of p) ≡ p
parameters-back p = each p.orig p.comm p.datt p.uatt
