-- Any two outcomes that a public function's contract allows coincide. The public functions of this crate: `read_settings`.
use mathlib.Core.Path.{◌≡◌, sym, ◌∙◌}
use Prim.Native.Nat.{ℕ}
use mathlib.Core.List.{List}
use Rattle.std.specs.Prelude.{Result}
use Rattle.settings_values.specs.declared.Settings.{Settings}
use Rattle.settings.specs.declared.Refusal.{Refusal}
use Rattle.settings.specs.Settings.{settings_of}

pub read-settings_coincide : (file : List ℕ) (r q : Result Settings Refusal) → r ≡ settings_of file → q ≡ settings_of file → r ≡ q
read-settings_coincide file r q e f = e ∙ sym f
