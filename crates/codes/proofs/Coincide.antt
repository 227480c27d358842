-- Any two outcomes that a public contract of this crate allows coincide.
use Prim.Native.Nat.{ℕ}
use mathlib.Core.Path.{◌≡◌}
use mathlib.Core.Bool.{Bool}
use Rattle.octets.proofs.Coincide.{coincide}
use Rattle.codes.specs.declared.protocol.Protocol.{Protocol}
use Rattle.codes.specs.declared.state.State.{State}
use Rattle.std.specs.Prelude.{Option}
use Rattle.codes.specs.declared.attributes.Parameters.{Parameters}
use Rattle.codes.specs.Protocol.{discriminator}
use Rattle.codes.specs.CallStates.{call_state_of, call_state_code}
use Rattle.codes.specs.Attributes.{parameters_of, attributes_of, parameters_number}

pub discriminator_coincides : (protocol : Protocol) (a b : ℕ) → a ≡ discriminator protocol → b ≡ discriminator protocol → a ≡ b
discriminator_coincides protocol a b = coincide (discriminator protocol) a b

pub call_state_of_coincides : (protocol : Protocol) (code : ℕ) (a b : Option State) → a ≡ call_state_of protocol code → b ≡ call_state_of protocol code → a ≡ b
call_state_of_coincides protocol code a b = coincide (call_state_of protocol code) a b

pub call_state_code_coincides : (state : State) (a b : ℕ) → a ≡ call_state_code state → b ≡ call_state_code state → a ≡ b
call_state_code_coincides state a b = coincide (call_state_code state) a b

pub parameters_of_coincides : (half : ℕ) (a b : Parameters) → a ≡ parameters_of half → b ≡ parameters_of half → a ≡ b
parameters_of_coincides half a b = coincide (parameters_of half) a b

pub attributes_of_coincides : (parameters : Parameters) (a b : ℕ) → a ≡ attributes_of parameters → b ≡ attributes_of parameters → a ≡ b
attributes_of_coincides parameters a b = coincide (attributes_of parameters) a b

pub parameters-number_coincides : (orig comm datt uatt : Bool) (a b : ℕ) → a ≡ parameters_number (record { orig = orig; comm = comm; datt = datt; uatt = uatt })
    → b ≡ parameters_number (record { orig = orig; comm = comm; datt = datt; uatt = uatt })
    → a ≡ b
parameters-number_coincides orig comm datt uatt a b = coincide (parameters_number (record { orig = orig; comm = comm; datt = datt; uatt = uatt })) a b
