-- The five values. Document 01, "Settings file": what each is written as; and what the functions that read them answer.
use Rattle.std.specs.Prelude.{ℕ, zero, suc, ◌+◌, ◌-◌, ◌*◌, ◌%◌, ◌≤◌, ◌≡◌, Bool, cond, not, ◌&&◌, Option, Some, None, List, [], ◌∷◌, ◌++◌, leb, ltb, eqb, length, get_or, replicate, set, take}
use Rattle.timer.specs.Timers.{least_joining, greatest_joining, least_invitation, greatest_invitation}
use Rattle.settings_values.specs.Digits.{digit, digits, octets_of, number_from}
use Rattle.settings_values.specs.declared.Settings.{Settings}
use Rattle.settings_values.specs.declared.OwnIdentity.{OwnIdentity}

-- "`cksn=` one digit 0 to 7"
abbrev pub is_key : List ℕ → Bool
is_key text = eqb (length text) 1 && digits 8 text

-- "`classmark=` 6 hex digits"
abbrev pub is_classmark : List ℕ → Bool
is_classmark text = eqb (length text) 6 && digits 16 text

-- "`identity=` 2 to 16 hex digits, even count"
abbrev pub is_identity : List ℕ → Bool
is_identity text = leb 2 (length text) && leb (length text) 16 && eqb (length text % 2) 0 && digits 16 text

-- "decimal, no leading zero", from the least to the greatest; 0x30 is the digit 0
abbrev pub is_milliseconds : (least greatest : ℕ) → List ℕ → Bool
is_milliseconds least greatest text = digits 10 text && not (eqb (get_or text 0 0) 0x30) && leb least (number_from 0 text) && leb (number_from 0 text) greatest

-- "`conn_req_ms=` decimal, no leading zero, 10000 to 30000"
abbrev pub is_joining : List ℕ → Bool
is_joining text = is_milliseconds least_joining greatest_joining text

-- "a fifth setting, 1,000 to 600,000 ms, in a fifth required line `present_ms=`"
abbrev pub is_invitation : List ℕ → Bool
is_invitation text = is_milliseconds least_invitation greatest_invitation text

-- An identity of eight octets at most, and zeros up to eight.
abbrev pub padded : List ℕ → List ℕ
padded octets = octets ++ replicate (8 - length octets) 0

-- Settings that a file can write: behind the identity's octets stand zeros up to eight.
pub record InRange (s : Settings) : Type 0 where
  pub key : s.key ≤ 7
  pub classmark : length s.classmark ≡ 3
  pub some : 1 ≤ s.count
  pub most : s.count ≤ 8
  pub counted : length (take s.count s.identity) ≡ s.count
  pub zeros : s.identity ≡ padded (take s.count s.identity)
  pub least : least_joining ≤ s.joining
  pub greatest : s.joining ≤ greatest_joining
  pub invitation-least : least_invitation ≤ s.invitation
  pub invitation-greatest : s.invitation ≤ greatest_invitation

-- What reading a text comes to: the value, or none.
unfoldable pub key_read : List ℕ → Option ℕ
key_read text = cond (is_key text) (Some (digit (get_or text 0 0))) None

unfoldable pub classmark_read : List ℕ → Option (List ℕ)
classmark_read text = cond (is_classmark text) (Some (octets_of text)) None

unfoldable pub identity_read : List ℕ → Option OwnIdentity
identity_read text = cond (is_identity text) (Some (record { octets = padded (octets_of text); count = length (octets_of text) })) None

unfoldable pub milliseconds_read : (least greatest : ℕ) → List ℕ → Option ℕ
milliseconds_read least greatest text = cond (is_milliseconds least greatest text) (Some (number_from 0 text)) None

abbrev pub joining_read : List ℕ → Option ℕ
joining_read text = milliseconds_read least_joining greatest_joining text

abbrev pub invitation_read : List ℕ → Option ℕ
invitation_read text = milliseconds_read least_invitation greatest_invitation text

-- For the functions beneath: octets that hex digits write two by two, stored from a place of eight octets on, at most as many as are left.
unfoldable pub hex_from : ℕ → List ℕ → ℕ → List ℕ → Option (List ℕ)
hex_from zero octets place text = Some octets
hex_from (suc left) octets place [] = Some octets
hex_from (suc left) octets place (high ∷ []) = Some octets
hex_from (suc left) octets place (high ∷ low ∷ text) =
    cond (ltb (digit high) 16 && ltb (digit low) 16) (hex_from left (set octets place (16 * digit high + digit low)) (suc place) text) None

unfoldable pub hex_of : List ℕ → Option (List ℕ)
hex_of text = hex_from 8 (replicate 8 0) 0 text

-- A decimal number behind digits that wrote `n`, if it is at most the greatest.
unfoldable pub decimal_from : (greatest n : ℕ) → List ℕ → Option ℕ
decimal_from greatest n text = cond (digits 10 text && leb (number_from n text) greatest) (Some (number_from n text)) None

unfoldable pub decimal_of : (greatest : ℕ) → List ℕ → Option ℕ
decimal_of greatest text = decimal_from greatest 0 text
