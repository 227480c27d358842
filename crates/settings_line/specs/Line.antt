-- One line of the settings file. Document 01, "Settings file".
use Rattle.std.specs.Prelude.{ℕ, Bool, true, false, cond, ◌&&◌, Option, Some, None, Result, Ok, Err, List, [], ◌∷◌, eqb, length, get_or, drop, is_some}
use Rattle.settings_values.specs.Digits.{digit, octets_of, number_from}
use Rattle.settings_values.specs.Values.{is_key, is_classmark, is_identity, is_joining, is_invitation, padded}
use Rattle.settings_values.specs.declared.OwnIdentity.{OwnIdentity}
use Rattle.settings_line.specs.declared.Fault.{Fault}
use Rattle.settings_line.specs.declared.Fault.TheVariants.{UnknownName, BadKey, BadClassmark, BadIdentity, BadJoining, BadInvitation, Repeated}
use Rattle.settings_line.specs.declared.Seen.{Seen}

-- What one line sets; or that it is unreadable, and why.
pub data Setting : Type 0 where
  Key : ℕ → Setting
  Classmark : List ℕ → Setting
  Identity : List ℕ → Setting
  Joining : ℕ → Setting
  Invitation : ℕ → Setting
  Unreadable : Fault → Setting

-- The names of the lines with their `=`, as octets: c k s n =, c l a s s m a r k =, i d e n t i t y =, c o n n _ r e q _ m s =, p r e s e n t _ m s =
abbrev pub cksn= : List ℕ
cksn= = 0x63 ∷ 0x6B ∷ 0x73 ∷ 0x6E ∷ 0x3D ∷ []

abbrev pub classmark= : List ℕ
classmark= = 0x63 ∷ 0x6C ∷ 0x61 ∷ 0x73 ∷ 0x73 ∷ 0x6D ∷ 0x61 ∷ 0x72 ∷ 0x6B ∷ 0x3D ∷ []

abbrev pub identity= : List ℕ
identity= = 0x69 ∷ 0x64 ∷ 0x65 ∷ 0x6E ∷ 0x74 ∷ 0x69 ∷ 0x74 ∷ 0x79 ∷ 0x3D ∷ []

abbrev pub conn_req_ms= : List ℕ
conn_req_ms= = 0x63 ∷ 0x6F ∷ 0x6E ∷ 0x6E ∷ 0x5F ∷ 0x72 ∷ 0x65 ∷ 0x71 ∷ 0x5F ∷ 0x6D ∷ 0x73 ∷ 0x3D ∷ []

abbrev pub present_ms= : List ℕ
present_ms= = 0x70 ∷ 0x72 ∷ 0x65 ∷ 0x73 ∷ 0x65 ∷ 0x6E ∷ 0x74 ∷ 0x5F ∷ 0x6D ∷ 0x73 ∷ 0x3D ∷ []

-- What the text behind each name sets.
unfoldable pub key_of : List ℕ → Setting
key_of text = cond (is_key text) (Key (digit (get_or text 0 0))) (Unreadable BadKey)

unfoldable pub classmark_of : List ℕ → Setting
classmark_of text = cond (is_classmark text) (Classmark (octets_of text)) (Unreadable BadClassmark)

unfoldable pub identity_of : List ℕ → Setting
identity_of text = cond (is_identity text) (Identity (octets_of text)) (Unreadable BadIdentity)

unfoldable pub joining_of : List ℕ → Setting
joining_of text = cond (is_joining text) (Joining (number_from 0 text)) (Unreadable BadJoining)

unfoldable pub invitation_of : List ℕ → Setting
invitation_of text = cond (is_invitation text) (Invitation (number_from 0 text)) (Unreadable BadInvitation)

-- The line starts with the name.
unfoldable pub starts : List ℕ → List ℕ → Bool
starts [] line = true
starts (n ∷ name) [] = false
starts (n ∷ name) (b ∷ line) = eqb b n && starts name line

-- One line's reading, by its name. "No spaces, no empty line": these start with no name, or are no digits behind one.
unfoldable pub setting_of : List ℕ → Setting
setting_of line =
    cond (starts cksn= line) (key_of (drop 5 line))
    (cond (starts classmark= line) (classmark_of (drop 10 line))
    (cond (starts identity= line) (identity_of (drop 9 line))
    (cond (starts conn_req_ms= line) (joining_of (drop 12 line))
    (cond (starts present_ms= line) (invitation_of (drop 11 line))
    (Unreadable UnknownName)))))

-- Before the first line no name is seen.
abbrev pub nothing : Seen
nothing = record { key = None; classmark = None; identity = None; joining = None; invitation = None }

-- One name more is seen, and set.
abbrev pub with_key : Seen → ℕ → Seen
with_key seen n = record seen { key = Some n }

abbrev pub with_classmark : Seen → List ℕ → Seen
with_classmark seen octets = record seen { classmark = Some octets }

-- Behind the identity's octets stand zeros up to eight.
abbrev pub own_identity : List ℕ → OwnIdentity
own_identity octets = record { octets = padded octets; count = length octets }

abbrev pub with_identity : Seen → List ℕ → Seen
with_identity seen octets = record seen { identity = Some (own_identity octets) }

abbrev pub with_joining : Seen → ℕ → Seen
with_joining seen n = record seen { joining = Some n }

abbrev pub with_invitation : Seen → ℕ → Seen
with_invitation seen n = record seen { invitation = Some n }

-- "Each once": a name that is seen already is refused.
abbrev pub once : Bool → Seen → Result Seen Fault
once already next = cond already (Err Repeated) (Ok next)

-- What one line adds to what is seen; or why it is refused.
unfoldable pub turn_of : Seen → Setting → Result Seen Fault
turn_of seen (Key n) = once (is_some seen.key) (with_key seen n)
turn_of seen (Classmark octets) = once (is_some seen.classmark) (with_classmark seen octets)
turn_of seen (Identity octets) = once (is_some seen.identity) (with_identity seen octets)
turn_of seen (Joining n) = once (is_some seen.joining) (with_joining seen n)
turn_of seen (Invitation n) = once (is_some seen.invitation) (with_invitation seen n)
turn_of seen (Unreadable fault) = Err fault

-- For the function beneath: what a line sets of a value that was read, or could not be.
abbrev pub once_read : {T : Type 0} → Option T → Option T → Fault → Result (Option T) Fault
once_read before None fault = Err fault
once_read before (Some value) fault = cond (is_some before) (Err Repeated) (Ok (Some value))
