-- The settings file. Document 01, "Settings file".
use Rattle.std.specs.Prelude.{ℕ, suc, Option, Some, None, Result, Ok, Err, List, [], ◌∷◌, map}
use Rattle.settings_values.specs.declared.OwnIdentity.{OwnIdentity}
use Rattle.settings_values.specs.declared.Settings.{Settings}
use Rattle.settings_line.specs.declared.Fault.{Fault}
use Rattle.settings_line.specs.declared.Fault.TheVariants.{NoLineFeed, NoKey, NoClassmark, NoIdentity, NoJoining, NoInvitation}
use Rattle.settings_line.specs.declared.Seen.{Seen}
use Rattle.settings_line.specs.Line.{Setting, Unreadable, setting_of, nothing, turn_of}
use Rattle.settings.specs.Lines.{Line, Ended, Cut, lines}
use Rattle.settings.specs.declared.Refusal.{Refusal}

-- A last line that no LF ends is unreadable, good or not.
abbrev pub meaning : Line → Setting
meaning (Ended line) = setting_of line
meaning (Cut line) = Unreadable NoLineFeed

-- What a name must have been set to; or the file is refused, since it has no line of that name.
abbrev pub needed : {T : Type 0} → Option T → Fault → (T → Result Settings Fault) → Result Settings Fault
needed None fault rest = Err fault
needed (Some value) fault rest = rest value

abbrev pub values : (key : ℕ) (classmark : List ℕ) (identity : OwnIdentity) (joining invitation : ℕ) → Settings
values key classmark identity joining invitation =
    record { key = key; classmark = classmark; identity = identity.octets; count = identity.count; joining = joining; invitation = invitation }

-- The settings of all five names, or the first in order that is missing.
unfoldable pub whole_of : Seen → Result Settings Fault
whole_of seen =
    needed seen.key NoKey λ key.
    needed seen.classmark NoClassmark λ classmark.
    needed seen.identity NoIdentity λ identity.
    needed seen.joining NoJoining λ joining.
    needed seen.invitation NoInvitation λ invitation.
    Ok (values key classmark identity joining invitation)

-- "Settings refused, with line number": nothing that was read is handed on.
abbrev pub refused_at : {T : Type 0} → ℕ → Fault → Result T Refusal
refused_at number fault = Err (record { line = number; fault = fault })

abbrev pub outcome_at : {T : Type 0} → ℕ → Result T Fault → Result T Refusal
outcome_at number (Ok value) = Ok value
outcome_at number (Err fault) = refused_at number fault

-- "If all lines read and one is missing, the number is the count of lines plus 1"
abbrev pub end_of : ℕ → Seen → Result Settings Refusal
end_of number seen = outcome_at number (whole_of seen)

-- What comes of the lines behind one that is taken; or the file is refused at that line.
abbrev pub onward : ℕ → Result Seen Fault → (Seen → Result Settings Refusal) → Result Settings Refusal
onward number (Ok next) rest = rest next
onward number (Err fault) rest = refused_at number fault

-- "The first line unreadable or repeating a name is named": the lines from the one with this number on.
unfoldable pub read_from : ℕ → Seen → List Setting → Result Settings Refusal
read_from number seen [] = end_of number seen
read_from number seen (line ∷ rest) = onward number (turn_of seen line) (λ next. read_from (suc number) next rest)

-- The whole file, its lines counted from 1.
unfoldable pub settings_of : List ℕ → Result Settings Refusal
settings_of file = read_from 1 nothing (map meaning (lines file))
