-- Reading and writing by the numbers of document 01: "Message reading alone .. answers 6, else 0 .., else 13"; "Writing one answers 5 .., then 4 .., else 0".
use Prim.Native.Nat.{ℕ, ◌<◌}
use mathlib.Core.Path.{◌≡◌, refl, sym, ap, ◌∙◌}
use mathlib.Core.Bool.{Bool, true, false, cond, not, ◌&&◌}
use mathlib.Core.List.{List}
use mathlib.Core.Logic.{◌↔◌}
use lib.Dec.{ltb, eqb}
use lib.ListN.{length}
use borrow.Author.Tests.{ltb-true, lt-ltb, eqb-true, eq-eqb}
use Rattle.codes.specs.declared.protocol.Protocol.{Protocol}
use Rattle.message.specs.declared.Message.{Message}
use Rattle.message.specs.Answers.{reading_number}
use Rattle.message.specs.Reading.{read_message}
use Rattle.std.specs.Prelude.{Result, Ok, Err}
use Rattle.writing.specs.declared.Unwritten.{Unwritten}
use Rattle.writing.specs.declared.Unwritten.TheVariants.{OutOfRange, ShortBuffer}
use Rattle.writing.specs.Writing.{writable, octets_written, write_answer, write_leaves, written_number}
use Rattle.roundtrip.specs.Back.{Told}
use Rattle.roundtrip.specs.Faults.{too_long, too_short, ours, typed, rule_three, number_by, fault_by, fault_read}
use Rattle.roundtrip.proofs.RoundTrip.{write_told}
use Rattle.roundtrip.proofs.Faults.{reading_numbered}

-- ---- reading

-- A number is this one exactly where its test says so.
by_test : (m n : ℕ) (t : Bool) → eqb m n ≡ t → (m ≡ n) ↔ (t ≡ true)
by_test m n t e = (λ h. sym e ∙ eq-eqb m n h, λ h. eqb-true m n (e ∙ h))

-- What the numbers by five conditions say: each exactly on its own, where none before it holds.
record Exact (long short our type wrong : Bool) : Type 0 where
  six : eqb (number_by long short our type wrong) 6 ≡ long
  one : eqb (fault_by long short our type wrong) 1 ≡ (not long && short)
  two : eqb (fault_by long short our type wrong) 2 ≡ (not long && not short && not our)
  three : eqb (fault_by long short our type wrong) 3 ≡ (not long && not short && our && not type)
  four : eqb (fault_by long short our type wrong) 4 ≡ (not long && not short && our && type && wrong)
  nought : eqb (number_by long short our type wrong) 0 ≡ (not long && not short && our && type && not wrong)
  thirteen : eqb (number_by long short our type wrong) 13 ≡ not (eqb (fault_by long short our type wrong) 0)

exact : (long short our type wrong : Bool) → Exact long short our type wrong
exact true short our type wrong = record { six = refl; one = refl; two = refl; three = refl; four = refl; nought = refl; thirteen = refl }
exact false true our type wrong = record { six = refl; one = refl; two = refl; three = refl; four = refl; nought = refl; thirteen = refl }
exact false false false type wrong = record { six = refl; one = refl; two = refl; three = refl; four = refl; nought = refl; thirteen = refl }
exact false false true false wrong = record { six = refl; one = refl; two = refl; three = refl; four = refl; nought = refl; thirteen = refl }
exact false false true true true = record { six = refl; one = refl; two = refl; three = refl; four = refl; nought = refl; thirteen = refl }
exact false false true true false = record { six = refl; one = refl; two = refl; three = refl; four = refl; nought = refl; thirteen = refl }

module _ (protocol : Protocol) (s : List ℕ) where
  tested : Exact (too_long s) (too_short s) (ours protocol s) (typed protocol s) (rule_three protocol s)
  tested = exact (too_long s) (too_short s) (ours protocol s) (typed protocol s) (rule_three protocol s)

  number_is : (n : ℕ) (t : Bool) → eqb (number_by (too_long s) (too_short s) (ours protocol s) (typed protocol s) (rule_three protocol s)) n ≡ t
      → (reading_number (read_message protocol s) ≡ n) ↔ (t ≡ true)
  number_is n t e = by_test (reading_number (read_message protocol s)) n t (ap (λ (m : ℕ). eqb m n) (reading_numbered protocol s).0 ∙ e)

  fault_is : (n : ℕ) (t : Bool) → eqb (fault_by (too_long s) (too_short s) (ours protocol s) (typed protocol s) (rule_three protocol s)) n ≡ t
      → (fault_read (read_message protocol s) ≡ n) ↔ (t ≡ true)
  fault_is n t e = by_test (fault_read (read_message protocol s)) n t (ap (λ (m : ℕ). eqb m n) (reading_numbered protocol s).1 ∙ e)

  -- 6 exactly for over 251 octets.
  pub reading_six : (reading_number (read_message protocol s) ≡ 6) ↔ (251 < length s)
  reading_six =
      let six : (reading_number (read_message protocol s) ≡ 6) ↔ (too_long s ≡ true) = number_is 6 (too_long s) tested.six in
      (λ h. ltb-true 251 (length s) (six.0 h), λ h. six.1 (lt-ltb 251 (length s) h))

  -- Else 13 exactly where there is a fault: 1 exactly for under 2 octets;
  pub reading_thirteen : (reading_number (read_message protocol s) ≡ 13) ↔ (not (eqb (fault_read (read_message protocol s)) 0) ≡ true)
  reading_thirteen =
      number_is 13 (not (eqb (fault_read (read_message protocol s)) 0)) (tested.thirteen ∙ ap (λ (n : ℕ). not (eqb n 0)) (sym (reading_numbered protocol s).1))

  pub reading_fault-one : (fault_read (read_message protocol s) ≡ 1) ↔ (not (too_long s) && too_short s ≡ true)
  reading_fault-one = fault_is 1 _ tested.one

  -- 2 exactly for another discriminator, where neither holds;
  pub reading_fault_two : (fault_read (read_message protocol s) ≡ 2) ↔ (not (too_long s) && not (too_short s) && not (ours protocol s) ≡ true)
  reading_fault_two = fault_is 2 _ tested.two

  -- 3 exactly for a type without a table, where none of these holds;
  pub reading_fault-three : (fault_read (read_message protocol s) ≡ 3) ↔ (not (too_long s) && not (too_short s) && ours protocol s && not (typed protocol s) ≡ true)
  reading_fault-three = fault_is 3 _ tested.three

  -- 4 exactly where rule 3 finds a fault, where none of these holds.
  pub reading_fault-four : (fault_read (read_message protocol s) ≡ 4) ↔ (not (too_long s) && not (too_short s) && ours protocol s && typed protocol s && rule_three protocol s ≡ true)
  reading_fault-four = fault_is 4 _ tested.four

  -- 0 exactly where nothing of all this holds.
  pub reading_nought : (reading_number (read_message protocol s) ≡ 0) ↔ (not (too_long s) && not (too_short s) && ours protocol s && typed protocol s && not (rule_three protocol s) ≡ true)
  reading_nought = number_is 0 _ tested.nought

-- ---- writing

module _ (protocol : Protocol) (d s : List ℕ) (flag : Bool) (value : ℕ) (message : Message) where
  -- 5 for a buffer under 255 octets, then 4 for what can't be written, else 0.
  pub written-number : written_number (write_answer protocol d s flag value message) ≡ cond (ltb (length d) 255) 5 (cond (writable protocol s flag value message) 0 4)
  unfolding write_answer
  written-number = go (ltb (length d) 255) (writable protocol s flag value message)
    where
      go : (a b : Bool) → written_number (cond a (Err ShortBuffer) (cond b (Ok (length (octets_written protocol s flag value message))) (Err OutOfRange))) ≡ cond a 5 (cond b 0 4)
      go true b = refl
      go false true = refl
      go false false = refl

  -- A refusal changes no lent octet.
  pub refused-unchanged : (written_number (write_answer protocol d s flag value message) ≡ 0 → ⊥) → write_leaves protocol d s flag value message ≡ d
  refused-unchanged = go (write_answer protocol d s flag value message) (write_told protocol d s flag value message)
    where
      go : (w : Result ℕ Unwritten) → Told protocol d s flag value message (write_leaves protocol d s flag value message) w → (written_number w ≡ 0 → ⊥) → write_leaves protocol d s flag value message ≡ d
      go (Ok n) t refused = elim (refused refl) [ ]
      go (Err unwritten) t refused = t
