-- GSM 04.69 and 24.068, clause 8: tables 8.1 to 8.9, row by row, and what a row is as octets. The two draw the same but for one row of table 8.8.
-- A row names its element in the comment behind it; its format and its length in octets stand as the table has them.
use Rattle.std.specs.Prelude.{ℕ, ◌+◌, ◌*◌, ◌^◌, List, [], ◌∷◌, ◌++◌, Bool, true, false, ◌&&◌, length, leb, ltb, eqb, Option, Some, None}
use Rattle.codes.specs.declared.protocol.Protocol.{Protocol}
use Rattle.codes.specs.declared.protocol.Protocol.TheVariants.{Broadcast, Group}
use Rattle.codes.specs.Protocol.{discriminator}
use Rattle.codes.specs.MessageTypes.{
  IMMEDIATE-SETUP,
  SETUP,
  CONNECT,
  TERMINATION,
  TERMINATION-REQUEST,
  TERMINATION-REJECT,
  STATUS,
  GET-STATUS,
  SET-PARAMETER,
}
use Rattle.message.specs.Content.{
  Content,
  connect,
  get_status,
  immediate_setup,
  set_parameter,
  setup,
  status,
  termination,
  termination_reject,
  termination_request,
  reference_octets,
  classmark_octets,
}

-- A field of a half octet: how many bits clause 9 gives it, and its value. The bits beside it are spare and written 0.
pub data Field : Type 0 where
  bits : (width value : ℕ) → Field

-- 9.4.5: four bits set to zero.
abbrev pub spare : Field
spare = bits 4 0

-- The formats of GSM 04.07. Lengths are those of the table's last column, in octets and in all.
pub data Element : Type 0 where
  halves : (first second : Field) → Element  -- two V of half an octet: the first named takes bits 1 to 4
  format_v : (count : ℕ) (value : List ℕ) → Element  -- value alone
  format_lv : (least most : ℕ) (value : List ℕ) → Element  -- a length octet and the value
  format_tv : (identifier : ℕ) (value : Option ℕ) → Element  -- identifier in bits 5 to 8, value in bits 1 to 4; optional
  format_tlv : (identifier least most : ℕ) (value : Option (List ℕ)) → Element  -- identifier, length octet and value; optional

-- Reject cause, 9.4.3: GSM 04.69 draws it with a length octet, 24.068 without one and with four octets.
abbrev pub reject_cause : Protocol → List ℕ → Element
reject_cause Broadcast cause = format_lv 2 248 cause
reject_cause Group cause = format_v 4 cause

-- The rows behind the first three.
unfoldable pub table : Protocol → Content → List Element
-- Table 8.1: CONNECT
table protocol (connect reference originator) =
    format_v 4 (reference_octets reference) ∷  -- broadcast call reference, 9.4.1, M
    halves (bits 1 originator)  -- originator indication, 9.4.4, M
    spare ∷  -- spare half octet, 9.4.5, M
    []
-- Table 8.2: GET STATUS
table protocol (get_status identity) =
    format_tlv 0x17 3 10 identity ∷  -- mobile identity, GSM 04.08, 10.5.1.4, O
    []
-- Table 8.3: IMMEDIATE SETUP
table protocol (immediate_setup key classmark identity reference) =
    halves spare  -- spare half octet, 9.4.5, M
    (bits 3 key) ∷  -- ciphering key sequence number, GSM 04.08, 10.5.1.2, M
    format_lv 4 4 (classmark_octets classmark) ∷  -- mobile station classmark 2, GSM 04.08, 10.5.1.6, M
    format_lv 2 9 identity ∷  -- mobile identity, GSM 04.08, 10.5.1.4, M
    format_v 4 (reference_octets reference) ∷  -- broadcast identity, 9.4.1, M
    []
-- Table 8.4: SET PARAMETER
table protocol (set_parameter attributes) =
    halves (bits 4 attributes)  -- state attributes, 9.4.6, M
    spare ∷  -- spare half octet, M
    []
-- Table 8.5: SETUP
table protocol (setup reference) =
    format_v 4 (reference_octets reference) ∷  -- broadcast identity, 9.4.1, M
    []
-- Table 8.6: STATUS
table protocol (status cause state attributes) =
    format_lv 2 248 cause ∷  -- cause, 9.4.3, M
    format_tv 0xA state ∷  -- call state, 9.4.2, O
    format_tv 0xB attributes ∷  -- state attributes, 9.4.6, O
    []
-- Table 8.7: TERMINATION
table protocol (termination cause) =
    format_lv 2 248 cause ∷  -- cause, 9.4.3, M
    []
-- Table 8.8: TERMINATION REJECT
table protocol (termination_reject cause) =
    reject_cause protocol cause ∷  -- reject cause, 9.4.3, M
    []
-- Table 8.9: TERMINATION REQUEST
table protocol (termination_request reference) =
    format_v 4 (reference_octets reference) ∷  -- broadcast call reference, 9.4.1, M
    []

-- The third row of each table: message type, 9.3.
unfoldable pub type_of : Content → ℕ
type_of (connect reference originator) = CONNECT
type_of (get_status identity) = GET-STATUS
type_of (immediate_setup key classmark identity reference) = IMMEDIATE-SETUP
type_of (set_parameter attributes) = SET-PARAMETER
type_of (setup reference) = SETUP
type_of (status cause state attributes) = STATUS
type_of (termination cause) = TERMINATION
type_of (termination_reject cause) = TERMINATION-REJECT
type_of (termination_request reference) = TERMINATION-REQUEST

-- 9.2, GSM 04.07: bits 5 to 8 of octet 1: the value, and above it the flag.
abbrev pub transaction : Bool → ℕ → ℕ
transaction true value = 8 + value
transaction false value = value

-- Two half octets as an octet.
abbrev pub octet_of : Field → Field → ℕ
octet_of (bits w low) (bits v high) = low + 16 * high

-- The first row and the second: protocol discriminator, 9.1, and transaction identifier, 9.2.
unfoldable pub head_of : Protocol → Bool → ℕ → ℕ
head_of protocol flag value = octet_of (bits 4 (discriminator protocol)) (bits 4 (transaction flag value))

abbrev pub counted : List ℕ → List ℕ
counted value = length value ∷ value

abbrev pub octets_of : Element → List ℕ
octets_of (halves first second) = octet_of first second ∷ []
octets_of (format_v count value) = value
octets_of (format_lv least most value) = counted value
octets_of (format_tv identifier None) = []
octets_of (format_tv identifier (Some value)) = (16 * identifier + value) ∷ []
octets_of (format_tlv identifier least most None) = []
octets_of (format_tlv identifier least most (Some value)) = identifier ∷ counted value

-- Rows as octets, one behind the other.
abbrev pub drawn : List Element → List ℕ
drawn [] = []
drawn (element ∷ more) = octets_of element ++ drawn more

-- A message as octets.
unfoldable pub written : Protocol → Bool → ℕ → Content → List ℕ
written protocol flag value content = head_of protocol flag value ∷ type_of content ∷ drawn (table protocol content)

-- A field that its bits hold.
abbrev pub field_fits : Field → Bool
field_fits (bits width value) = ltb value (2 ^ width)

-- A value with a length octet before it, as long as the table's column says.
abbrev pub count_fits : ℕ → ℕ → List ℕ → Bool
count_fits least most value = leb least (1 + length value) && leb (1 + length value) most

-- An element as wide and as long as its row draws.
abbrev pub element_fits : Element → Bool
element_fits (halves first second) = field_fits first && field_fits second
element_fits (format_v count value) = eqb (length value) count
element_fits (format_lv least most value) = count_fits least most value
element_fits (format_tv identifier None) = true
element_fits (format_tv identifier (Some value)) = ltb value 16
element_fits (format_tlv identifier least most None) = true
element_fits (format_tlv identifier least most (Some value)) = leb least (2 + length value) && leb (2 + length value) most

abbrev pub rows_fit : List Element → Bool
rows_fit [] = true
rows_fit (element ∷ more) = element_fits element && rows_fit more

-- Document 01, "Answer numbers": no field beyond the width or length that clauses 8 and 9 draw, transaction value at most 6, at most 251 octets.
unfoldable pub fits : Protocol → Bool → ℕ → Content → Bool
fits protocol flag value content = leb value 6 && (rows_fit (table protocol content) && leb (length (written protocol flag value content)) 251)
