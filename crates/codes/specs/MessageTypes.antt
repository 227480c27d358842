-- GSM 04.69, 9.3, table 9.1: message types, bits 6 to 1. Bit 8 is 0; bit 7, drawn as x, is read as anything and written 0.
use Rattle.std.specs.Prelude.{ℕ}

abbrev pub IMMEDIATE-SETUP : ℕ
IMMEDIATE-SETUP = 0b110001

abbrev pub SETUP : ℕ
SETUP = 0b110010

abbrev pub CONNECT : ℕ
CONNECT = 0b110011

abbrev pub TERMINATION : ℕ
TERMINATION = 0b110100

abbrev pub TERMINATION-REQUEST : ℕ
TERMINATION-REQUEST = 0b110101

abbrev pub TERMINATION-REJECT : ℕ
TERMINATION-REJECT = 0b110110

abbrev pub STATUS : ℕ
STATUS = 0b111000

abbrev pub GET-STATUS : ℕ
GET-STATUS = 0b111001

abbrev pub SET-PARAMETER : ℕ
SET-PARAMETER = 0b111010
