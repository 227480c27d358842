-- What writing a message answers, and what it leaves in the lent buffer.
-- Document 01, "Answer numbers": 5 for a lent buffer under 255 octets, then 4 for a field beyond the width or length clauses 8 and 9 draw, transaction value 7
-- or a message over 251 octets, else 0 and writes it. A run that does not lie within the lent octets is a field out of range.
use Rattle.std.specs.Prelude.{ℕ, List, Bool, cond, ◌&&◌, length, ltb, Result, Ok, Err}
use Rattle.std.proofs.lemmas.List.Edits.{sets}
use Rattle.codes.specs.declared.protocol.Protocol.{Protocol}
use Rattle.message.specs.declared.Message.{Message}
use Rattle.message.specs.Content.{content_of, runs_lie}
use Rattle.message.specs.Tables.{written, fits}
use Rattle.writing.specs.declared.Unwritten.{Unwritten}
use Rattle.writing.specs.declared.Unwritten.TheVariants.{OutOfRange, ShortBuffer}

-- The message can be written.
unfoldable pub writable : Protocol → List ℕ → Bool → ℕ → Message → Bool
writable protocol s flag value message = runs_lie s message && fits protocol flag value (content_of s message)

-- Its octets, which are the table's.
abbrev pub octets_written : Protocol → List ℕ → Bool → ℕ → Message → List ℕ
octets_written protocol s flag value message = written protocol flag value (content_of s message)

-- Putting a message into a part of a buffer that holds `d`, where its runs lie in `s`: what can't be written is out of range, then the part is short of room,
-- else the message's octets stand over the part's start, and each other octet is as it was.
unfoldable pub put_answer : Protocol → List ℕ → List ℕ → Bool → ℕ → Message → Result ℕ Unwritten
put_answer protocol d s flag value message =
    cond (writable protocol s flag value message)
    (cond (ltb (length d) (length (octets_written protocol s flag value message))) (Err ShortBuffer) (Ok (length (octets_written protocol s flag value message)))) (Err OutOfRange)

unfoldable pub put_leaves : Protocol → List ℕ → List ℕ → Bool → ℕ → Message → List ℕ
put_leaves protocol d s flag value message =
    cond (writable protocol s flag value message)
    (cond (ltb (length d) (length (octets_written protocol s flag value message))) d (sets d 0 (octets_written protocol s flag value message))) d

-- Writing one: the answer, where the buffer holds `d` and the runs lie in `s`.
unfoldable pub write_answer : Protocol → List ℕ → List ℕ → Bool → ℕ → Message → Result ℕ Unwritten
write_answer protocol d s flag value message =
    cond (ltb (length d) 255) (Err ShortBuffer)
    (cond (writable protocol s flag value message) (Ok (length (octets_written protocol s flag value message))) (Err OutOfRange))

-- The buffer afterwards: the message's octets over its start, and each other octet as it was; on a refusal all as it was.
unfoldable pub write_leaves : Protocol → List ℕ → List ℕ → Bool → ℕ → Message → List ℕ
write_leaves protocol d s flag value message =
    cond (ltb (length d) 255) d
    (cond (writable protocol s flag value message) (sets d 0 (octets_written protocol s flag value message)) d)

-- Document 01, "Answer numbers".
abbrev pub written_number : Result ℕ Unwritten → ℕ
written_number (Ok count) = 0
written_number (Err OutOfRange) = 4
written_number (Err ShortBuffer) = 5
