-- Fit files: what it is that a file writes some settings. For the promise that a fit file, and no other, is read, and exactly.
-- Document 01, "Settings file": "each ended by LF, any order, each once", "Upper or lower hex".
use Rattle.std.specs.Prelude.{ℕ, zero, suc, ◌+◌, ◌/◌, ◌%◌, ◌<◌, ◌≡◌, cond, List, [], ◌∷◌, ◌++◌, ◌⊎◌, ltb, eqb, take}
use Rattle.settings_values.specs.declared.Settings.{Settings}
use Rattle.settings_values.specs.Values.{InRange}
use Rattle.settings_line.specs.Line.{cksn=, classmark=, identity=, conn_req_ms=, present_ms=}

-- The octet of a hex digit: `0` to `9`, then `A` to `F` or `a` to `f`.
abbrev pub upper : ℕ → ℕ
upper n = cond (ltb n 10) (0x30 + n) (0x37 + n)

abbrev pub lower : ℕ → ℕ
lower n = cond (ltb n 10) (0x30 + n) (0x57 + n)

abbrev pub Digit : ℕ → ℕ → Type 0
Digit n b = (b ≡ upper n) ⊎ (b ≡ lower n)

-- The text writes the octets, two hex digits an octet, each digit in either case.
pub data HexText : List ℕ → List ℕ → Type 0 where
  none : HexText [] []
  octet : {n a b : ℕ} {octets text : List ℕ} → n < 256 → Digit (n / 16) a → Digit (n % 16) b → HexText octets text
      → HexText (n ∷ octets) (a ∷ b ∷ text)

-- The decimal digits of a number with no leading zero, in front of those behind; at most as many as are left.
unfoldable pub digits_to : (left n : ℕ) → List ℕ → List ℕ
digits_to zero n behind = behind
digits_to (suc left) n behind = cond (eqb n 0) behind (digits_to left (n / 10) ((0x30 + n % 10) ∷ behind))

-- A number's decimal digits: six, which hold any timer of a file, or fewer.
abbrev pub decimal_text : ℕ → List ℕ
decimal_text n = digits_to 6 n []

-- A line that writes one of the settings, by the number of its name: 0 `cksn=`, 1 `classmark=`, 2 `identity=`, 3 `conn_req_ms=`,
-- 4 `present_ms=`.
pub data Writes (s : Settings) : ℕ → List ℕ → Type 0 where
  key-line : Writes s 0 (cksn= ++ (0x30 + s.key) ∷ [])
  classmark-line : {text : List ℕ} → HexText s.classmark text → Writes s 1 (classmark= ++ text)
  identity-line : {text : List ℕ} → HexText (take s.count s.identity) text → Writes s 2 (identity= ++ text)
  joining-line : Writes s 3 (conn_req_ms= ++ decimal_text s.joining)
  invitation-line : Writes s 4 (present_ms= ++ decimal_text s.invitation)

-- So many names there are.
abbrev pub named : ℕ
named = 5

-- A file whose lines write settings under these names, in this order, each line ended by LF.
pub data WritesAll (s : Settings) : List ℕ → List ℕ → Type 0 where
  no_line : WritesAll s [] []
  and-line : {name : ℕ} {names line file : List ℕ} → Writes s name line → WritesAll s names file
      → WritesAll s (name ∷ names) (line ++ 10 ∷ file)

-- How often a number stands among others.
unfoldable pub times : ℕ → List ℕ → ℕ
times n [] = 0
times n (m ∷ others) = cond (eqb n m) (suc (times n others)) (times n others)

-- "Any order, each once": the names, in some order.
abbrev pub EachOnce : List ℕ → Type 0
EachOnce names = (name : ℕ) → name < named → times name names ≡ 1

-- A fit file for some settings.
pub record Fit (s : Settings) (file : List ℕ) : Type 0 where
  pub range : InRange s
  pub names : List ℕ
  pub each-once : EachOnce names
  pub written : WritesAll s names file
