-- Reading what was written from numbers gives the same numbers back for the fields of their kind.
use Prim.Native.Nat.{ℕ, ◌≤◌}
use mathlib.Core.Path.{◌≡◌, refl, ap, sym, ◌∙◌}
use mathlib.Core.List.{List}
use mathlib.Core.Bool.{Bool, true, false, cond}
use native.Mathlib.Omega.{arith}
use lib.ListN.{length, take}
use lib.Dec.{ltb}
use Rattle.codes.specs.declared.protocol.Protocol.{Protocol}
use Rattle.message.specs.declared.Message.{Message}
use Rattle.std.specs.Prelude.{Option, Some, None, Result, Ok, Err}
use Rattle.message.specs.declared.Reading.{Reading}
use Rattle.message.specs.declared.Unread.{Unread}
use Rattle.writing.specs.declared.Unwritten.{Unwritten}
use Rattle.writing.specs.declared.Unwritten.TheVariants.{OutOfRange, ShortBuffer}
use Rattle.message.specs.Content.{content_of}
use Rattle.message.specs.Reading.{read_message}
use Rattle.writing.specs.Writing.{write_answer, write_leaves, written_number}
use Rattle.roundtrip.specs.Back.{Says as ReadsAs}
use Rattle.roundtrip.proofs.RoundTrip.{written_back}
use Rattle.message_numbers.specs.declared.Numbers.{Numbers}
use Rattle.message_numbers.specs.declared.NumbersRead.{NumbersRead}
use Rattle.message_numbers.specs.Numbers.{flag_number, numbers_of, message_of, flag_of}
use Rattle.message_numbers.specs.Outcomes.{
  numbers_read,
  read_numbers,
  written_length,
  wrote_numbers,
  not_written,
  meant_answer,
  meant_leaves,
  write_numbers_answer,
  write_numbers_leaves,
}
use Rattle.message_numbers.specs.Back.{Means, carried, GivesNumbers}
use Rattle.message_numbers.proofs.TakenBack.{read-taken-back}
use Rattle.message_numbers.proofs.Carried.{message_says, says_same}

-- Octets that give the message back that numbers mean give the numbers back.
module _ (protocol : Protocol) (s t : List ℕ) (n : Numbers) (m : Message) (meant : message_of n ≡ Some m) where
  read-numbers : (r : Result Reading Unread) → read_message protocol t ≡ r → ReadsAs t (flag_of n) n.value (content_of s m) r → GivesNumbers protocol s n t
  unfolding read_numbers numbers_read
  read-numbers (Ok read) e says =
      let back : Means (numbers_of read.flag read.value read.message) read.flag read.value read.message = read-taken-back t protocol read e in
      let there = message_says t (numbers_of read.flag read.value read.message) read.message back.meant in
      let here = message_says s n m meant in
      let same = says_same t s (numbers_of read.flag read.value read.message) n (content_of t read.message) (content_of s m) says.2 there.1 here.1 in
      let flag : (numbers_of read.flag read.value read.message).flag ≡ n.flag = there.0 ∙ ap flag_number (back.same_flag ∙ says.0) ∙ sym here.0 in
      let same-read : read_numbers protocol t ≡ numbers_read (Ok read) = ap numbers_read e in
      record {
        answer = ap (λ (r : NumbersRead). r.answer) same-read;
        fault = ap (λ (r : NumbersRead). r.fault) same-read;
        same_kind = ap (λ (r : NumbersRead). r.message.kind) same-read ∙ same.0;
        same_flag = ap (λ (r : NumbersRead). r.message.flag) same-read ∙ flag;
        same-value = ap (λ (r : NumbersRead). r.message.value) same-read ∙ back.same-value ∙ says.1;
        same-fields = ap (λ (r : NumbersRead). carried t r.message) same-read ∙ same.1;
      }
  read-numbers (Err unread) e says = elim says [ ]

-- No refusal is answer 0.
refusal : {A : Type 0} (n : ℕ) → 4 ≤ n → n ≡ 0 → A
refusal n h e = let z : ⊥ = omega arith in elim z [ ]

module _ (protocol : Protocol) (d s : List ℕ) (n : Numbers) where
  by_wrote : (m : Message) → message_of n ≡ Some m → (w : Result ℕ Unwritten) → write_answer protocol d s (flag_of n) n.value m ≡ w → written_number w ≡ 0
      → GivesNumbers protocol s n (take (written_length w) (write_leaves protocol d s (flag_of n) n.value m))
  by_wrote m e (Ok k) q h =
      let t : List ℕ = take k (write_leaves protocol d s (flag_of n) n.value m) in
      read-numbers protocol s t n m e (read_message protocol t) refl (written_back protocol d s (flag_of n) n.value m k q)
  by_wrote m e (Err ShortBuffer) q h = refusal 5 (omega arith) h
  by_wrote m e (Err OutOfRange) q h = refusal 4 (omega arith) h

  not_written_lem : (t : Bool) → written_number (cond t (Err ShortBuffer) (Err OutOfRange)) ≡ 0 → ⊥
  not_written_lem true h = refusal 5 (omega arith) h
  not_written_lem false h = refusal 4 (omega arith) h

  by-meant : (k : Option Message) → message_of n ≡ k → (meant_answer protocol d s (flag_of n) n.value k).answer ≡ 0
      → GivesNumbers protocol s n (take (meant_answer protocol d s (flag_of n) n.value k).length (meant_leaves protocol d s (flag_of n) n.value k))
  unfolding wrote_numbers not_written
  by-meant (Some m) e h = by_wrote m e (write_answer protocol d s (flag_of n) n.value m) refl h
  by-meant None e h = elim (not_written_lem (ltb (length d) 255) h) [ ]

  pub written-numbers-back : (write_numbers_answer protocol d s n).answer ≡ 0
      → GivesNumbers protocol s n (take (write_numbers_answer protocol d s n).length (write_numbers_leaves protocol d s n))
  unfolding write_numbers_answer write_numbers_leaves
  written-numbers-back h = by-meant (message_of n) refl h
