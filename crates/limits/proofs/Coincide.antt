-- Any two outcomes that a public contract of this crate allows coincide.
use Prim.Native.Nat.{ℕ}
use mathlib.Core.Path.{◌≡◌}
use mathlib.Core.List.{List}
use mathlib.Core.Bool.{Bool}
use Rattle.octets.proofs.Coincide.{coincide}
use Rattle.codes.specs.declared.protocol.Protocol.{Protocol}
use Rattle.octets.specs.declared.Run.{Run}
use Rattle.std.specs.Prelude.{Option}
use Rattle.limits.specs.Limits.{run_fits, reject_fits, half_count, status_fits}

pub identity-fits_coincides : (s : List ℕ) (identity : Run) (a b : Bool) → a ≡ run_fits s identity 1 8 → b ≡ run_fits s identity 1 8 → a ≡ b
identity-fits_coincides s identity a b = coincide (run_fits s identity 1 8) a b

pub cause_fits_coincides : (s : List ℕ) (cause : Run) (a b : Bool) → a ≡ run_fits s cause 1 247 → b ≡ run_fits s cause 1 247 → a ≡ b
cause_fits_coincides s cause a b = coincide (run_fits s cause 1 247) a b

pub reject_fits_coincides : (protocol : Protocol) (s : List ℕ) (cause : Run) (a b : Bool) → a ≡ reject_fits protocol s cause → b ≡ reject_fits protocol s cause → a ≡ b
reject_fits_coincides protocol s cause a b = coincide (reject_fits protocol s cause) a b

pub half_count_coincides : (half : Option ℕ) (a b : ℕ) → a ≡ half_count half → b ≡ half_count half → a ≡ b
half_count_coincides half a b = coincide (half_count half) a b

pub status-fits_coincides : (s : List ℕ) (cause : Run) (state attributes : Option ℕ) (a b : Bool) → a ≡ status_fits s cause state attributes
    → b ≡ status_fits s cause state attributes → a ≡ b
status-fits_coincides s cause state attributes a b = coincide (status_fits s cause state attributes) a b
