-- Any two outcomes that a public contract of this crate allows coincide. The public functions: `own_of`, `identity_run` and `write`.
use Prim.Native.Nat.{ℕ, ◌+◌, ◌≤◌}
use mathlib.Core.Path.{◌≡◌}
use mathlib.Core.List.{List}
use Rattle.octets.proofs.Coincide.{coincide}
use Rattle.octets.specs.declared.Run.{Run}
use Rattle.message.specs.declared.Own.{Own}
use Rattle.settings_values.specs.declared.Settings.{Settings}
use Rattle.settings_octets.specs.Octets.{identity_run, octets_of, own_of}

pub own_of_coincides : (s : List ℕ) (a b : Own) → a ≡ own_of s → b ≡ own_of s → a ≡ b
own_of_coincides s = coincide (own_of s)

pub identity-run_coincides : (s : List ℕ) (a b : Run) → (a ≡ identity_run s) × (a.start + a.count ≤ 21) → (b ≡ identity_run s) × (b.start + b.count ≤ 21) → a ≡ b
identity-run_coincides s a b p q = coincide (identity_run s) a b p.0 q.0

pub write_coincides : (x : Settings) (a b : List ℕ) → a ≡ octets_of x → b ≡ octets_of x → a ≡ b
write_coincides x = coincide (octets_of x)
