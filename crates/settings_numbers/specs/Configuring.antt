-- The settings file, as C reads it: answer, why a line is refused, the line, T_conn req, T_pres, and the twenty-one octets.
use Rattle.std.specs.Prelude.{ℕ, Result, Ok, Err, List}
use Rattle.settings_line.specs.declared.Fault.{Fault}
use Rattle.settings_line.specs.declared.Fault.TheVariants.{NoLineFeed, UnknownName, BadKey, BadClassmark, BadIdentity, BadJoining, BadInvitation, Repeated, NoKey, NoClassmark, NoIdentity, NoJoining, NoInvitation}
use Rattle.settings_values.specs.declared.Settings.{Settings}
use Rattle.settings.specs.declared.Refusal.{Refusal}
use Rattle.settings_octets.specs.Octets.{octets_of}
use Rattle.settings_numbers.specs.declared.SettingsRead.{SettingsRead}

-- Why a line is refused, 1 to 13.
unfoldable pub fault_number : Fault → ℕ
fault_number NoLineFeed = 1
fault_number UnknownName = 2
fault_number BadKey = 3
fault_number BadClassmark = 4
fault_number BadIdentity = 5
fault_number BadJoining = 6
fault_number Repeated = 7
fault_number NoKey = 8
fault_number NoClassmark = 9
fault_number NoIdentity = 10
fault_number NoJoining = 11
fault_number BadInvitation = 12
fault_number NoInvitation = 13

-- What C is told: 0 and the timers; or 12, settings refused, with why and the line's number, and the timers are 0.
unfoldable pub settings_shown : Result Settings Refusal → SettingsRead
settings_shown (Ok settings) = record { answer = 0; fault = 0; line = 0; joining = settings.joining; invitation = settings.invitation }
settings_shown (Err refusal) = record { answer = 12; fault = fault_number refusal.fault; line = refusal.line; joining = 0; invitation = 0 }

-- The octets afterwards: as they were, where the file is refused.
unfoldable pub kept_octets : List ℕ → Result Settings Refusal → List ℕ
kept_octets before (Ok settings) = octets_of settings
kept_octets before (Err refusal) = before
