-- Document 01, "Answer numbers": the tests of a step's arguments, whatever the context. An event is told by its number, and by the value and the mode that
-- it may carry.
use Rattle.std.specs.Prelude.{ℕ, Bool, cond, not, ◌&&◌, ◌||◌, eqb, ltb}

-- "identity settings (key number, classmark, own identity) out of range as for a step": a key number over 7, an identity of 0 or over 8 octets.
-- A classmark is three octets by its type.
unfoldable pub settings_out : ℕ → ℕ → Bool
settings_out key identity = ltb 7 key || (eqb identity 0 || ltb 8 identity)

-- Answer 4: event number, mode, a transaction value over 6, ciphering key number over 7, own identity of 0 or over 8 octets;
-- mode and transaction value only where the event carries them. `known` says whether the step table has the event.
unfoldable pub out_of_range : Bool → (key identity number value mode : ℕ) → Bool
out_of_range known key identity number value mode =
    settings_out key identity ||
    (not known ||
    (eqb number 18 && ltb 1 mode ||
    (eqb number 1 || (eqb number 2 || eqb number 10)) && ltb 6 value))

-- Why a step is refused whatever the context, as the answer's number, and 0 where it is not: 5, 6 and 4 in their order. `octets` is the length of the
-- message received, `room` that of the lent reply buffer.
unfoldable pub argument_refusal : Bool → (key identity number value mode octets room : ℕ) → ℕ
argument_refusal known key identity number value mode octets room =
    cond (ltb room 255) 5
    (cond (eqb number 18 && ltb 251 octets) 6
    (cond (out_of_range known key identity number value mode) 4 0))
