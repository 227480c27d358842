-- What was mended, as C has it: the answer number; of 0 the entries kept, the bytes dropped, the number of the answer that ended the run, and the copy's length, of any
-- other 0 for each.
use Rattle.std.specs.Prelude.{ℕ, ◌≡◌, List, length}
use Rattle.settings_octets.specs.Octets.{identity_of, own_of}
use Rattle.mend.specs.declared.Mended.{Mended}
use Rattle.mend.specs.declared.Mended.TheVariants.{TooLong, OutOfRange, NoRoom, Done}
use Rattle.mend.specs.Mending.{mended_of, copy_of, afterwards, ending_number}
use Rattle.mend_numbers.specs.declared.Mending.{Mending}

unfoldable pub refused_with : ℕ → Mending
refused_with answer = record { answer = answer; kept = 0; dropped = 0; ending = 0; length = 0 }

unfoldable pub mending_of : Mended → Mending
mending_of TooLong = refused_with 10
mending_of OutOfRange = refused_with 4
mending_of NoRoom = refused_with 5
mending_of (Done m) = record { answer = 0; kept = m.kept; dropped = m.dropped; ending = ending_number m.ending; length = m.length }

-- A log was mended into a buffer, under the settings of these octets; or it was refused, and nothing changed.
abbrev pub LogMended : (settings log before : List ℕ) → Mending → (after : List ℕ) → Type 0
LogMended settings log before r after =
    (r ≡ mending_of (mended_of (own_of settings) (identity_of settings) log (length before)))
    × (after ≡ afterwards before (copy_of (own_of settings) (identity_of settings) log) (mended_of (own_of settings) (identity_of settings) log (length before)))
