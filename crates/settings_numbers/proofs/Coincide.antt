-- Any two outcomes that a public contract of this crate allows coincide: the result and each octet that is lent. The public functions: `read_file`.
use Prim.Native.Nat.{ℕ}
use mathlib.Core.Path.{◌≡◌}
use mathlib.Core.List.{List}
use Rattle.octets.proofs.Coincide.{coincide}
use Rattle.settings.specs.Settings.{settings_of}
use Rattle.settings_numbers.specs.declared.SettingsRead.{SettingsRead}
use Rattle.settings_numbers.specs.Configuring.{kept_octets, settings_shown}

pub read-file_coincides : (file before : List ℕ) (a b : SettingsRead) (e f : List ℕ)
    → (a ≡ settings_shown (settings_of file)) × (e ≡ kept_octets before (settings_of file))
    → (b ≡ settings_shown (settings_of file)) × (f ≡ kept_octets before (settings_of file)) → (a ≡ b) × (e ≡ f)
read-file_coincides file before a b e f p q =
    (coincide (settings_shown (settings_of file)) a b p.0 q.0, coincide (kept_octets before (settings_of file)) e f p.1 q.1)
