-- What reading gives and what writing answers and leaves, in numbers.
-- Document 01, "Answer numbers": reading answers 6, else 0 and the message, else 13 with the first fault; writing answers 5 for a lent buffer under 255 octets,
-- then 4 for what is out of range, else 0 and writes it.
use Rattle.std.specs.Prelude.{ℕ, List, Bool, cond, length, ltb, Option, Some, None, Result, Ok, Err}
use Rattle.codes.specs.declared.protocol.Protocol.{Protocol}
use Rattle.message.specs.declared.Message.{Message}
use Rattle.message.specs.declared.Reading.{Reading}
use Rattle.message.specs.declared.Unread.{Unread}
use Rattle.message.specs.declared.Unread.TheVariants.{TooLong, Unreadable}
use Rattle.writing.specs.declared.Unwritten.{Unwritten}
use Rattle.writing.specs.declared.Unwritten.TheVariants.{OutOfRange, ShortBuffer}
use Rattle.message.specs.Answers.{fault_number, reading_number}
use Rattle.message.specs.Reading.{read_message}
use Rattle.writing.specs.Writing.{write_answer, write_leaves, written_number}
use Rattle.message_numbers.specs.declared.Numbers.{Numbers}
use Rattle.message_numbers.specs.declared.NumbersRead.{NumbersRead}
use Rattle.message_numbers.specs.declared.NumbersWritten.{NumbersWritten}
use Rattle.message_numbers.specs.Numbers.{blank, numbers_of, message_of, flag_of}

abbrev pub refused_with : ℕ → ℕ → NumbersRead
refused_with answer fault = record { answer = answer; fault = fault; message = blank 0 0 0 }

-- A reading in numbers; a message that is refused is all zero.
unfoldable pub numbers_read : Result Reading Unread → NumbersRead
numbers_read (Ok read) = record { answer = reading_number (Ok read); fault = 0; message = numbers_of read.flag read.value read.message }
numbers_read (Err (Unreadable fault)) = refused_with (reading_number (Err (Unreadable fault))) (fault_number fault)
numbers_read (Err TooLong) = refused_with (reading_number (Err TooLong)) 0

unfoldable pub read_numbers : Protocol → List ℕ → NumbersRead
read_numbers protocol s = numbers_read (read_message protocol s)

abbrev pub written_length : Result ℕ Unwritten → ℕ
written_length (Ok count) = count
written_length (Err unwritten) = 0

-- What the writer says, in numbers: no octets where it refuses.
unfoldable pub wrote_numbers : Result ℕ Unwritten → NumbersWritten
wrote_numbers wrote = record { answer = written_number wrote; length = written_length wrote }

-- Numbers that mean no message are out of range, after the test of the buffer.
unfoldable pub not_written : ℕ → NumbersWritten
not_written room = wrote_numbers (cond (ltb room 255) (Err ShortBuffer) (Err OutOfRange))

abbrev pub meant_answer : Protocol → List ℕ → List ℕ → Bool → ℕ → Option Message → NumbersWritten
meant_answer protocol d s flag value (Some message) = wrote_numbers (write_answer protocol d s flag value message)
meant_answer protocol d s flag value None = not_written (length d)

abbrev pub meant_leaves : Protocol → List ℕ → List ℕ → Bool → ℕ → Option Message → List ℕ
meant_leaves protocol d s flag value (Some message) = write_leaves protocol d s flag value message
meant_leaves protocol d s flag value None = d

-- The answer, where the buffer holds `d` and the runs lie in `s`.
unfoldable pub write_numbers_answer : Protocol → List ℕ → List ℕ → Numbers → NumbersWritten
write_numbers_answer protocol d s n = meant_answer protocol d s (flag_of n) n.value (message_of n)

-- The buffer afterwards.
unfoldable pub write_numbers_leaves : Protocol → List ℕ → List ℕ → Numbers → List ℕ
write_numbers_leaves protocol d s n = meant_leaves protocol d s (flag_of n) n.value (message_of n)
