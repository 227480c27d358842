-- What writing numbers comes to, once it is known what they mean.
use Prim.Native.Nat.{ℕ}
use mathlib.Core.Path.{◌≡◌, refl}
use mathlib.Core.List.{List}
use lib.ListN.{length}
use Rattle.codes.specs.declared.protocol.Protocol.{Protocol}
use Rattle.message.specs.declared.Message.{Message}
use Rattle.std.specs.Prelude.{Some, None, Result}
use Rattle.writing.specs.declared.Unwritten.{Unwritten}
use Rattle.writing.specs.Writing.{write_answer, write_leaves}
use Rattle.message_numbers.specs.declared.Numbers.{Numbers}
use Rattle.message_numbers.specs.declared.NumbersWritten.{NumbersWritten}
use Rattle.message_numbers.specs.Numbers.{message_of, flag_of}
use Rattle.message_numbers.specs.Outcomes.{wrote_numbers, not_written, write_numbers_answer, write_numbers_leaves}

module _ (protocol : Protocol) (d s : List ℕ) (n : Numbers) (r : NumbersWritten) where
  pub means_message : (m : Message) (w : Result ℕ Unwritten) (e : List ℕ) → message_of n ≡ Some m → r ≡ wrote_numbers w
      → (w ≡ write_answer protocol d s (flag_of n) n.value m) × (e ≡ write_leaves protocol d s (flag_of n) n.value m)
      → (r ≡ write_numbers_answer protocol d s n) × (e ≡ write_numbers_leaves protocol d s n)
  unfolding write_numbers_answer write_numbers_leaves
  means_message m w e p q t = rw (p, q, t.0, t.1) (refl, refl)

  pub means_nothing : message_of n ≡ None → r ≡ not_written (length d) → (r ≡ write_numbers_answer protocol d s n) × (d ≡ write_numbers_leaves protocol d s n)
  unfolding write_numbers_answer write_numbers_leaves
  means_nothing p q = rw (p, q) (refl, refl)
