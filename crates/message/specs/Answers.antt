-- Document 01, "Answer numbers": the number of each answer, and the fault number of answer 13.
use Rattle.std.specs.Prelude.{ℕ, Result, Ok, Err}
use Rattle.message.specs.declared.Fault.{Fault}
use Rattle.message.specs.declared.Fault.TheVariants.{
  TooShort,
  Discriminator,
  UnknownType,
  CutShort,
  WrongLength,
  MustBeKnown,
}
use Rattle.message.specs.declared.Reading.{Reading}
use Rattle.message.specs.declared.Unread.{Unread}
use Rattle.message.specs.declared.Unread.TheVariants.{TooLong, Unreadable}

-- 1 under 2 octets, 2 discriminator, 3 type, 4 mandatory part wrong, or an unknown element whose identifier has bits 8 to 5 all zero.
abbrev pub fault_number : Fault → ℕ
fault_number TooShort = 1
fault_number Discriminator = 2
fault_number UnknownType = 3
fault_number CutShort = 4
fault_number (WrongLength place) = 4
fault_number (MustBeKnown place identifier) = 4

-- 0 the message, 6 over 251 octets, 13 unreadable.
abbrev pub reading_number : Result Reading Unread → ℕ
reading_number (Ok read) = 0
reading_number (Err TooLong) = 6
reading_number (Err (Unreadable fault)) = 13
