-- Any two outcomes that a public contract of this crate allows coincide.
use Prim.Native.Nat.{ℕ}
use mathlib.Core.Path.{◌≡◌}
use mathlib.Core.Bool.{Bool}
use Rattle.octets.proofs.Coincide.{coincide}
use Rattle.codes.specs.declared.state.State.{State}
use Rattle.codes.specs.declared.attributes.Parameters.{Parameters}
use Rattle.context.specs.declared.Remembered.{Remembered}
use Rattle.context.specs.Remembered.{remembered_number, remembering, returning}
use Rattle.context.specs.declared.Context.{Context}
use Rattle.context.specs.States.{number_of}
use Rattle.context.specs.declared.Chooser.{Chooser}
use Rattle.context.specs.Talk.{flag_of, chooser_number}
use Rattle.context.specs.Context.{start_row, entering, cleared}

pub cleared_coincides : (a b : Context) → a ≡ cleared → b ≡ cleared → a ≡ b
cleared_coincides a b = coincide cleared a b

pub state-number_coincides : (s : State) (a b : ℕ) → a ≡ number_of s → b ≡ number_of s → a ≡ b
state-number_coincides s a b = coincide (number_of s) a b

pub start_row_coincides : (s : State) (a b : Parameters) → a ≡ start_row s → b ≡ start_row s → a ≡ b
start_row_coincides s a b = coincide (start_row s) a b

pub entering_coincides : (s : State) (p a b : Parameters) → a ≡ entering s p → b ≡ entering s p → a ≡ b
entering_coincides s p a b = coincide (entering s p) a b

pub expected_flag_coincides : (x : Context) (a b : Bool) → a ≡ flag_of x → b ≡ flag_of x → a ≡ b
expected_flag_coincides x a b = coincide (flag_of x) a b

pub remembered_number_coincides : (remembered : Remembered) (a b : ℕ) → a ≡ remembered_number remembered → b ≡ remembered_number remembered → a ≡ b
remembered_number_coincides remembered a b = coincide (remembered_number remembered) a b

pub remembering_coincides : (state : State) (a b : Remembered) → a ≡ remembering state → b ≡ remembering state → a ≡ b
remembering_coincides state a b = coincide (remembering state) a b

pub returning_coincides : (remembered : Remembered) (here : State) (a b : State) → a ≡ returning remembered here → b ≡ returning remembered here → a ≡ b
returning_coincides remembered here a b = coincide (returning remembered here) a b

pub chooser_number_coincides : (chooser : Chooser) (a b : ℕ) → a ≡ chooser_number chooser → b ≡ chooser_number chooser → a ≡ b
chooser_number_coincides chooser a b = coincide (chooser_number chooser) a b
