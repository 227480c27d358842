-- A settings file that is taken gives settings in range, as a step and a judgement ask, and timers in range; one that is refused gives none.
use Prim.Native.Nat.{ℕ, ◌≤◌}
use mathlib.Core.Path.{◌≡◌, refl, sym, ap, ◌∙◌}
use mathlib.Core.Bool.{true, false}
use mathlib.Core.List.{List}
use mathlib.Core.Logic.{◌⊎◌}
use native.Mathlib.Omega.{arith}
use lib.ListN.{length}
use borrow.Author.Tests.{le-ltb, ne_eqb}
use Rattle.timer.specs.Timers.{least_joining, greatest_joining, least_invitation, greatest_invitation}
use Rattle.step_arguments.specs.Arguments.{settings_out}
use Rattle.std.specs.Prelude.{Result, Ok, Err}
use Rattle.settings_values.specs.declared.Settings.{Settings}
use Rattle.settings_line.specs.declared.Fault.{Fault}
use Rattle.settings_line.specs.declared.Fault.TheVariants.{NoLineFeed, UnknownName, BadKey, BadClassmark, BadIdentity, BadJoining, BadInvitation, Repeated, NoKey, NoClassmark, NoIdentity, NoJoining, NoInvitation}
use Rattle.settings.specs.declared.Refusal.{Refusal}
use Rattle.settings_values.specs.Values.{InRange}
use Rattle.settings.specs.Settings.{settings_of}
use Rattle.settings_fit.specs.Promise.{names_of, FirstBad, OneMissing, Promise}
use Rattle.settings_fit.proofs.Verdict.{promise}
use Rattle.settings_octets.specs.Octets.{identity_of, octets_of, own_of, timer_at}
use Rattle.settings_octets.proofs.Back.{identity-back, invitation-back, joining-back, own_back}
use Rattle.settings_numbers.specs.declared.SettingsRead.{SettingsRead}
use Rattle.settings_numbers.specs.Configuring.{fault_number, kept_octets, settings_shown}

-- A key number of at most 7 and an identity of 1 to 8 octets.
settings_in : (key identity : ℕ) → key ≤ 7 → 1 ≤ identity → identity ≤ 8 → settings_out key identity ≡ false
unfolding settings_out
settings_in key identity k l m = rw (le-ltb 7 key k, ne_eqb identity 0 (λ z. omega arith), le-ltb 8 identity m)

-- What a taken file gives C: twenty-one octets, and the two timers that C is told of.
pub record Taken (octets : List ℕ) (joining invitation : ℕ) : Type 0 where
  pub settings : settings_out (own_of octets).key (length (identity_of octets)) ≡ false
  pub joining-least : least_joining ≤ joining
  pub joining-greatest : joining ≤ greatest_joining
  pub invitation-least : least_invitation ≤ invitation
  pub invitation-greatest : invitation ≤ greatest_invitation
  pub joining-kept : timer_at octets 13 ≡ joining
  pub invitation-kept : timer_at octets 17 ≡ invitation

octets-taken : (x : Settings) → InRange x → Taken (octets_of x) x.joining x.invitation
octets-taken x r = record {
  settings = rw (own_back x, identity-back x r, r.counted) (settings_in x.key x.count r.key r.some r.most);
  joining-least = r.least;
  joining-greatest = r.greatest;
  invitation-least = r.invitation-least;
  invitation-greatest = r.invitation-greatest;
  joining-kept = joining-back x (omega (arith, r.greatest));
  invitation-kept = invitation-back x (omega (arith, r.invitation-greatest));
}

-- From the file's bytes: heidezirkel_read_settings, answered 0.
pub file_in_range : (file before octets : List ℕ) (r : SettingsRead) → r ≡ settings_shown (settings_of file) → octets ≡ kept_octets before (settings_of file) → r.answer ≡ 0
    → Taken octets r.joining r.invitation
unfolding settings_shown kept_octets
file_in_range file before octets r told kept taken =
    go (settings_of file) told kept (promise file) (sym (ap (λ (s : SettingsRead). s.answer) told) ∙ taken)
  where
    go : (read : Result Settings Refusal) → r ≡ settings_shown read → octets ≡ kept_octets before read → Promise file read
        → (settings_shown read).answer ≡ 0 → Taken octets r.joining r.invitation
    go (Ok settings) told kept fit z = rw (told, kept) (octets-taken settings fit.range)
    go (Err refusal) told kept bad z = absurd (omega arith)

-- A refused file gives no settings: C is told 12, why and its first bad line, and no timers, and each octet stays as it was.
pub record Refused (file before octets : List ℕ) (r : SettingsRead) : Type 0 where
  pub answer : r.answer ≡ 12
  pub fault : (1 ≤ r.fault) × (r.fault ≤ 13)
  pub line : FirstBad (names_of file) r.line ⊎ OneMissing (names_of file) r.line
  pub joining : r.joining ≡ 0
  pub invitation : r.invitation ≡ 0
  pub kept : octets ≡ before

fault_told : (fault : Fault) → (1 ≤ fault_number fault) × (fault_number fault ≤ 13)
unfolding fault_number
fault_told NoLineFeed = (omega arith, omega arith)
fault_told UnknownName = (omega arith, omega arith)
fault_told BadKey = (omega arith, omega arith)
fault_told BadClassmark = (omega arith, omega arith)
fault_told BadIdentity = (omega arith, omega arith)
fault_told BadJoining = (omega arith, omega arith)
fault_told BadInvitation = (omega arith, omega arith)
fault_told Repeated = (omega arith, omega arith)
fault_told NoKey = (omega arith, omega arith)
fault_told NoClassmark = (omega arith, omega arith)
fault_told NoIdentity = (omega arith, omega arith)
fault_told NoJoining = (omega arith, omega arith)
fault_told NoInvitation = (omega arith, omega arith)

pub file_refused : (file before octets : List ℕ) (r : SettingsRead) → r ≡ settings_shown (settings_of file) → octets ≡ kept_octets before (settings_of file)
    → (r.answer ≡ 0 → ⊥) → Refused file before octets r
unfolding settings_shown kept_octets
file_refused file before octets r told kept untaken =
    go (settings_of file) told kept (promise file) (λ z. untaken (ap (λ (s : SettingsRead). s.answer) told ∙ z))
  where
    go : (read : Result Settings Refusal) → r ≡ settings_shown read → octets ≡ kept_octets before read → Promise file read
        → ((settings_shown read).answer ≡ 0 → ⊥) → Refused file before octets r
    go (Ok settings) told kept fit n = absurd (n refl)
    go (Err refusal) told kept bad n =
        rw (told, kept) record { answer = refl; fault = fault_told refusal.fault; line = bad; joining = refl; invitation = refl; kept = refl }

-- So octets that were out of range, as a host's zeros are, are out of range behind a refused file.
pub refused_out : (file before octets : List ℕ) (r : SettingsRead) → r ≡ settings_shown (settings_of file) → octets ≡ kept_octets before (settings_of file)
    → (r.answer ≡ 0 → ⊥) → settings_out (own_of before).key (length (identity_of before)) ≡ true → settings_out (own_of octets).key (length (identity_of octets)) ≡ true
refused_out file before octets r told kept untaken out = rw ((file_refused file before octets r told kept untaken).kept) out
