-- Document 01, "Answer numbers", message reading alone, in so many words: "answers 6, else 0 and the message .., else 13 with the first fault: 1 under 2 octets,
-- 2 discriminator, 3 type, 4 as rule 3". Nothing here goes by what the reader makes of the octets.
use Rattle.std.specs.Prelude.{ℕ, ◌+◌, ◌%◌, List, [], ◌∷◌, Bool, true, false, cond, length, get_or, leb, ltb, eqb, is_some, Result, Ok, Err}
use Rattle.octets.specs.Rows.{rows}
use Rattle.codes.specs.declared.protocol.Protocol.{Protocol}
use Rattle.codes.specs.declared.protocol.Protocol.TheVariants.{Broadcast, Group}
use Rattle.codes.specs.Protocol.{discriminator}
use Rattle.codes.specs.MessageTypes.{
  IMMEDIATE-SETUP,
  SETUP,
  CONNECT,
  TERMINATION,
  TERMINATION-REQUEST,
  TERMINATION-REJECT,
  STATUS,
  GET-STATUS,
  SET-PARAMETER,
}
use Rattle.message.specs.declared.Reading.{Reading}
use Rattle.message.specs.declared.Unread.{Unread}
use Rattle.message.specs.declared.Unread.TheVariants.{TooLong, Unreadable}
use Rattle.element.specs.Elements.{within, element_from}
use Rattle.message.specs.Answers.{fault_number}
use Rattle.message.specs.Reading.{octet}

-- A piece of a mandatory part: so many octets, or a length octet from `least` to `most` and as many octets.
pub data Piece : Type 0 where
  octets : (count : ℕ) → Piece
  counted : (least most : ℕ) → Piece

-- What a type's table draws behind octets 1 and 2; some codes have no table.
pub data Drawing : Type 0 where
  none : Drawing
  draws : List Piece → Drawing

-- The cause of a TERMINATION REJECT: behind a length octet in GSM 04.69, four octets in 24.068.
abbrev pub reject_piece : Protocol → Piece
reject_piece Broadcast = counted 1 247
reject_piece Group = octets 4

-- The mandatory parts of tables 8.1 to 8.9.
abbrev pub drawings : Protocol → List (ℕ × Drawing)
drawings protocol =
    (CONNECT, draws (octets 5 ∷ [])) ∷
    (GET-STATUS, draws []) ∷
    (IMMEDIATE-SETUP, draws (octets 1 ∷ counted 3 3 ∷ counted 1 8 ∷ octets 4 ∷ [])) ∷
    (SET-PARAMETER, draws (octets 1 ∷ [])) ∷
    (SETUP, draws (octets 4 ∷ [])) ∷
    (STATUS, draws (counted 1 247 ∷ [])) ∷
    (TERMINATION, draws (counted 1 247 ∷ [])) ∷
    (TERMINATION-REJECT, draws (reject_piece protocol ∷ [])) ∷
    (TERMINATION-REQUEST, draws (octets 4 ∷ [])) ∷
    []

-- Rule 3: "a mandatory part is wrong only if it is cut short or a length octet lies outside what its table draws"; and behind it no element may stand whose
-- identifier has bits 8 to 5 all zero. The pieces begin at place `at`.
unfoldable pub wrong_from : List ℕ → ℕ → List Piece → Bool
wrong_from s at [] = is_some (element_from s at 0 15)
wrong_from s at (octets count ∷ more) = cond (leb (at + count) (length s)) (wrong_from s (at + count) more) true
wrong_from s at (counted least most ∷ more) =
    cond (leb (length s) at) true
    (cond (within (get_or s at 0) least most)
    (cond (leb (at + 1 + get_or s at 0) (length s)) (wrong_from s (at + 1 + get_or s at 0) more) true) true)

-- ---- the conditions, each a test of the octets

abbrev pub too_long : List ℕ → Bool
too_long s = ltb 251 (length s)

abbrev pub too_short : List ℕ → Bool
too_short s = ltb (length s) 2

abbrev pub ours : Protocol → List ℕ → Bool
ours protocol s = eqb (octet 1 s % 16) (discriminator protocol)

abbrev pub is_drawn : Drawing → Bool
is_drawn none = false
is_drawn (draws pieces) = true

-- The type without bit 7; with bit 8 set it is none.
abbrev pub drawing : Protocol → List ℕ → Drawing
drawing protocol s = cond (leb 128 (octet 2 s)) none (rows (octet 2 s % 64) none (drawings protocol))

abbrev pub typed : Protocol → List ℕ → Bool
typed protocol s = is_drawn (drawing protocol s)

abbrev pub wrong_in : List ℕ → Drawing → Bool
wrong_in s none = false
wrong_in s (draws pieces) = wrong_from s 2 pieces

abbrev pub rule_three : Protocol → List ℕ → Bool
rule_three protocol s = wrong_in s (drawing protocol s)

-- ---- the numbers

-- The answer's number and the fault's, by these conditions in the paper's order.
abbrev pub number_by : Bool → Bool → Bool → Bool → Bool → ℕ
number_by long short our type wrong = cond long 6 (cond short 13 (cond our (cond type (cond wrong 13 0) 13) 13))

abbrev pub fault_by : Bool → Bool → Bool → Bool → Bool → ℕ
fault_by long short our type wrong = cond long 0 (cond short 1 (cond our (cond type (cond wrong 4 0) 3) 2))

-- The fault number of a reading, and 0 where there is none.
abbrev pub fault_read : Result Reading Unread → ℕ
fault_read (Ok read) = 0
fault_read (Err (Unreadable fault)) = fault_number fault
fault_read (Err TooLong) = 0
