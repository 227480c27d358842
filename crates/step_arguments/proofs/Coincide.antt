-- Every public function's contract determines its answer: any two outcomes that it allows coincide.
use Prim.Native.Nat.{ℕ}
use mathlib.Core.Path.{◌≡◌}
use mathlib.Core.Bool.{Bool}
use Rattle.octets.proofs.Coincide.{coincide}
use Rattle.step_arguments.specs.Arguments.{settings_out, argument_refusal}

pub settings_out_coincides : (key identity : ℕ) (a b : Bool) → a ≡ settings_out key identity → b ≡ settings_out key identity → a ≡ b
settings_out_coincides key identity = coincide (settings_out key identity)

pub refusal_coincides : (known : Bool) (key identity number value mode octets room a b : ℕ) → a ≡ argument_refusal known key identity number value mode octets room
    → b ≡ argument_refusal known key identity number value mode octets room → a ≡ b
refusal_coincides known key identity number value mode octets room = coincide (argument_refusal known key identity number value mode octets room)
