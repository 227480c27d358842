-- "out of range as for a step": the judge's test of the identity settings is the step's, for an event that the table has and that carries nothing.
use Prim.Native.Nat.{ℕ}
use mathlib.Core.Path.{◌≡◌}
use mathlib.Core.Bool.{true, or-false}
use Rattle.step_arguments.specs.Arguments.{settings_out, out_of_range}

-- Event 3, join, carries nothing.
pub settings_as_for_a_step : (key identity value mode : ℕ) → out_of_range true key identity 3 value mode ≡ settings_out key identity
unfolding out_of_range
settings_as_for_a_step key identity value mode = or-false (settings_out key identity)
