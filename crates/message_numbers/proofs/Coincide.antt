-- Any two outcomes that a public contract of this crate allows coincide.
use Prim.Native.Nat.{ℕ}
use mathlib.Core.Path.{◌≡◌}
use mathlib.Core.List.{List}
use Rattle.octets.proofs.Coincide.{coincide}
use Rattle.codes.specs.declared.protocol.Protocol.{Protocol}
use Rattle.message_numbers.specs.declared.Numbers.{Numbers}
use Rattle.message_numbers.specs.declared.NumbersRead.{NumbersRead}
use Rattle.message_numbers.specs.declared.NumbersWritten.{NumbersWritten}
use Rattle.message_numbers.specs.Outcomes.{read_numbers, write_numbers_answer, write_numbers_leaves}

pub read_coincides : (protocol : Protocol) (s : List ℕ) (a b : NumbersRead) → a ≡ read_numbers protocol s → b ≡ read_numbers protocol s → a ≡ b
read_coincides protocol s = coincide (read_numbers protocol s)

-- What `write` answers, and every octet of the lent buffer.
pub write_coincides : (protocol : Protocol) (d s : List ℕ) (n : Numbers) (a b : NumbersWritten) (e f : List ℕ)
    → a ≡ write_numbers_answer protocol d s n → b ≡ write_numbers_answer protocol d s n
    → e ≡ write_numbers_leaves protocol d s n → f ≡ write_numbers_leaves protocol d s n → (a ≡ b) × (e ≡ f)
write_coincides protocol d s n a b e f p q r t =
    (coincide (write_numbers_answer protocol d s n) a b p q, coincide (write_numbers_leaves protocol d s n) e f r t)
