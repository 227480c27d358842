-- What an answer promises: an accepted file is fit for the settings read, and a refused one is named by its first bad line.
-- Document 01, "Settings file": "The first line unreadable or repeating a name is named, counted from 1 ..".
use Rattle.std.specs.Prelude.{ℕ, suc, ◌≤◌, ◌<◌, ◌≡◌, Result, Ok, Err, List, ◌∷◌, ◌++◌, map, ◌⊎◌, length}
use Rattle.settings_values.specs.declared.Settings.{Settings}
use Rattle.settings.specs.declared.Refusal.{Refusal}
use Rattle.settings.specs.Lines.{lines}
use Rattle.settings_line.specs.Line.{Setting, Key, Classmark, Identity, Joining, Invitation, Unreadable}
use Rattle.settings.specs.Settings.{meaning}
use Rattle.settings_fit.specs.Written.{named, times, Fit}

-- The number of a line's name, as `Writes` counts them, and the next for a line that is unreadable.
abbrev pub name_of : Setting → ℕ
name_of (Key n) = 0
name_of (Classmark octets) = 1
name_of (Identity octets) = 2
name_of (Joining n) = 3
name_of (Invitation n) = 4
name_of (Unreadable fault) = named

abbrev pub names_of : List ℕ → List ℕ
names_of file = map name_of (map meaning (lines file))

-- Lines that all read, and differ in name.
pub record Good (names : List ℕ) : Type 0 where
  pub read : times named names ≡ 0
  pub differ : (name : ℕ) → name < named → times name names ≤ 1

-- The line with this number is unreadable or repeats a name, and all before it are good.
pub record FirstBad (names : List ℕ) (number : ℕ) : Type 0 where
  pub before : List ℕ
  pub name : ℕ
  pub behind : List ℕ
  pub file : names ≡ before ++ name ∷ behind
  pub here : number ≡ suc (length before)
  pub good : Good before
  pub bad : (name ≡ named) ⊎ (times name before ≡ 1)

-- All lines are good and a name is missing; the number is the count of lines plus 1.
pub record OneMissing (names : List ℕ) (number : ℕ) : Type 0 where
  pub name : ℕ
  pub one : name < named
  pub here : number ≡ suc (length names)
  pub good : Good names
  pub missing : times name names ≡ 0

-- Settings are given of a fit file alone; a refusal has none, and tells the first bad line.
abbrev pub Promise : List ℕ → Result Settings Refusal → Type 0
Promise file (Ok settings) = Fit settings file
Promise file (Err refusal) = FirstBad (names_of file) refusal.line ⊎ OneMissing (names_of file) refusal.line
