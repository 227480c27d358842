-- A log that is well formed, as it is read and as its layout has it. Document 01, "The log".
use Rattle.std.specs.Prelude.{ℕ, ◌≡◌, true, List, [], ◌∷◌, Some}
use Rattle.version.specs.declared.Table.{Table}
use Rattle.version.specs.Version.{version_of}
use Rattle.message.specs.declared.Own.{Own}
use Rattle.septets.specs.Number.{number_at}
use Rattle.log_entry.specs.Layout.{Meant, ranged, whole}
use Rattle.judge_laws.specs.Log.{WellFormed}
use Rattle.verdict.specs.Judge.{entries_at}

-- As it is read: the version stands first, and every entry behind it can be read.
pub record Readable (table : Table) (own : Own) (identity s : List ℕ) : Type 0 where
  pub place : ℕ
  pub version : number_at s 0 ≡ Some (version_of table, place)
  pub entries : WellFormed (entries_at table own identity s place)

-- As the layout has it: the version, and entries in range written one behind the other.
abbrev pub AllInRange : Table → List Meant → Type 0
AllInRange table [] = Unit {0}
AllInRange table (e ∷ es) = (ranged table e ≡ true) × AllInRange table es

pub record Laid (table : Table) (s : List ℕ) : Type 0 where
  pub laid : List Meant
  pub in_range : AllInRange table laid
  pub bytes : s ≡ whole table laid
