-- Reading and writing a context's octets undo each other.
use Prim.Native.Nat.{ℕ, ◌+◌, ◌*◌, ◌/◌, ◌%◌, ◌≤◌, ◌<◌}
use mathlib.Core.Path.{◌≡◌, refl, sym, ap, subst, ◌∙◌}
use mathlib.Core.List.{List, [], ◌∷◌}
use mathlib.Core.Bool.{Bool, true, false, ◌&&◌, ◌||◌}
use native.Mathlib.Omega.{arith}
use lib.Dec.{eqb, leb}
use lib.ListN.{length, get_or}
use borrow.Author.Tests.{eqb-true, eqb-false, leb-true, le-leb}
use Rattle.octets.proofs.Choice.{at_cond}
use Rattle.codes.specs.declared.state.State.{State}
use Rattle.codes.specs.declared.state.State.TheVariants.{U0, U0p, U1, U2, U3, U4, U5, U6, U2sl, U2wr, U2r, U2ws, U2sr, U2nc}
use Rattle.codes.specs.declared.attributes.Parameters.{Parameters}
use Rattle.codes.specs.Attributes.{parameters_number}
use Rattle.timer.specs.declared.Timers.{Timers}
use Rattle.context.specs.declared.Context.{Context}
use Rattle.context.specs.declared.Chooser.{Chooser}
use Rattle.context.specs.declared.Chooser.TheVariants.{Neither, Us, Cell}
use Rattle.context.specs.declared.Talk.{Talk}
use Rattle.context.specs.declared.Remembered.{Remembered}
use Rattle.context.specs.States.{number_of}
use Rattle.context.specs.Remembered.{remembered_number}
use Rattle.context.specs.Talk.{chooser_number}
use Rattle.context.proofs.Whole.{and_left, and_right}
use Rattle.std.specs.Prelude.{Option, Some, None, option_map}
use Rattle.context_octets.specs.Octets.{bit, chooser_at, context_of, four_number, is_kept, is_remembered, is_talk, remembered_at, octets_of, parameters_at, state_at, talk_at, talk_number, timers_at, timers_number, with_state}
use Rattle.octets.proofs.Listed.{all_listed, listed}
use Rattle.context_octets.proofs.Bits.{bit-most, chooser_most, parameters-four}

-- ---- what is written is read back

state-back : (s : State) → state_at (number_of s) ≡ Some s
unfolding state_at
state-back = elim [ U0 ↦ refl | U0p ↦ refl | U1 ↦ refl | U2 ↦ refl | U3 ↦ refl | U4 ↦ refl | U5 ↦ refl | U6 ↦ refl | U2sl ↦ refl | U2wr ↦ refl | U2r ↦ refl | U2ws ↦ refl | U2sr ↦ refl | U2nc ↦ refl ]

-- Four bits, by their number.
record Bits (n : ℕ) (a b c d : Bool) : Type 0 where
  small : leb n 15 ≡ true
  eight : eqb (n / 8 % 2) 1 ≡ a
  four : eqb (n / 4 % 2) 1 ≡ b
  two : eqb (n / 2 % 2) 1 ≡ c
  one : eqb (n % 2) 1 ≡ d

bits : (a b c d : Bool) → Bits (four_number a b c d) a b c d
unfolding four_number
bits true true true true = record { small = refl; eight = refl; four = refl; two = refl; one = refl }
bits true true true false = record { small = refl; eight = refl; four = refl; two = refl; one = refl }
bits true true false true = record { small = refl; eight = refl; four = refl; two = refl; one = refl }
bits true true false false = record { small = refl; eight = refl; four = refl; two = refl; one = refl }
bits true false true true = record { small = refl; eight = refl; four = refl; two = refl; one = refl }
bits true false true false = record { small = refl; eight = refl; four = refl; two = refl; one = refl }
bits true false false true = record { small = refl; eight = refl; four = refl; two = refl; one = refl }
bits true false false false = record { small = refl; eight = refl; four = refl; two = refl; one = refl }
bits false true true true = record { small = refl; eight = refl; four = refl; two = refl; one = refl }
bits false true true false = record { small = refl; eight = refl; four = refl; two = refl; one = refl }
bits false true false true = record { small = refl; eight = refl; four = refl; two = refl; one = refl }
bits false true false false = record { small = refl; eight = refl; four = refl; two = refl; one = refl }
bits false false true true = record { small = refl; eight = refl; four = refl; two = refl; one = refl }
bits false false true false = record { small = refl; eight = refl; four = refl; two = refl; one = refl }
bits false false false true = record { small = refl; eight = refl; four = refl; two = refl; one = refl }
bits false false false false = record { small = refl; eight = refl; four = refl; two = refl; one = refl }

-- Five bits, the first of which weighs 16.
record Bits-and-sixteen (n : ℕ) (e a b c d : Bool) : Type 0 where
  small : leb n 31 ≡ true
  sixteen : eqb (n / 16 % 2) 1 ≡ e
  eight : eqb (n / 8 % 2) 1 ≡ a
  four : eqb (n / 4 % 2) 1 ≡ b
  two : eqb (n / 2 % 2) 1 ≡ c
  one : eqb (n % 2) 1 ≡ d

-- What is remembered, by its number.
record Minded (n : ℕ) (r : Remembered) : Type 0 where
  one_of : is_remembered n ≡ true
  back : remembered_at n ≡ r

minded : (r : Remembered) → Minded (remembered_number r) r
unfolding remembered_number is_remembered remembered_at
minded = elim [ Remembered.Nothing ↦ record { one_of = refl; back = refl } | Remembered.U1 ↦ record { one_of = refl; back = refl } | Remembered.U2 ↦ record { one_of = refl; back = refl } | Remembered.U2sl ↦ record { one_of = refl; back = refl } | Remembered.U2wr ↦ record { one_of = refl; back = refl } | Remembered.U2ws ↦ record { one_of = refl; back = refl } | Remembered.U2sr ↦ record { one_of = refl; back = refl } ]

-- A fifth bit that weighs 16 leaves the four as they are.
bit_is : (e : Bool) → eqb (bit e) 1 ≡ e
bit_is true = refl
bit_is false = refl

over_sixteen : (e : Bool) (n : ℕ) (a b c d : Bool) → Bits n a b c d → Bits-and-sixteen (16 * bit e + n) e a b c d
over_sixteen e n a b c d h =
    let m : n ≤ 15 = leb-true n 15 h.small in
    let k : bit e ≤ 1 = bit-most e in
    let w16 : (16 * bit e + n) / 16 % 2 ≡ bit e = omega arith in
    let w8 : (16 * bit e + n) / 8 % 2 ≡ n / 8 % 2 = omega arith in
    let w4 : (16 * bit e + n) / 4 % 2 ≡ n / 4 % 2 = omega arith in
    let w2 : (16 * bit e + n) / 2 % 2 ≡ n / 2 % 2 = omega arith in
    let w1 : (16 * bit e + n) % 2 ≡ n % 2 = omega arith in
    record {
      small = le-leb (16 * bit e + n) 31 (omega arith);
      sixteen = ap (λ (k : ℕ). eqb k 1) w16 ∙ bit_is e;
      eight = ap (λ (k : ℕ). eqb k 1) w8 ∙ h.eight;
      four = ap (λ (k : ℕ). eqb k 1) w4 ∙ h.four;
      two = ap (λ (k : ℕ). eqb k 1) w2 ∙ h.two;
      one = ap (λ (k : ℕ). eqb k 1) w1 ∙ h.one;
    }

-- What a group call keeps, by its number.
record Talks (n : ℕ) (k : Talk) : Type 0 where
  one_of : is_talk n ≡ true
  back : talk_at n ≡ k

chosen_by : (c : Chooser) → chooser_at (chooser_number c) ≡ c
unfolding chooser_at
chosen_by = elim [ Neither ↦ refl | Us ↦ refl | Cell ↦ refl ]

talks : (k : Talk) → Talks (talk_number k) k
unfolding talk_number talk_at is_talk
talks k =
    let n : ℕ = 16 * bit k.awaiting + 8 * bit k.status + 4 * bit k.termination + chooser_number k.chooser in
    let a : bit k.awaiting ≤ 1 = bit-most k.awaiting in
    let b : bit k.status ≤ 1 = bit-most k.status in
    let d : bit k.termination ≤ 1 = bit-most k.termination in
    let e : chooser_number k.chooser ≤ 2 = chooser_most k.chooser in
    let w16 : n / 16 % 2 ≡ bit k.awaiting = omega arith in
    let w8 : n / 8 % 2 ≡ bit k.status = omega arith in
    let w4 : n / 4 % 2 ≡ bit k.termination = omega arith in
    let low : n % 4 ≡ chooser_number k.chooser = omega arith in
    record {
      one_of = rw (le-leb n 31 (omega arith), le-leb (n % 4) 2 (omega arith));
      back = rw (low, w4, w8, w16, chosen_by k.chooser, bit_is k.termination, bit_is k.status, bit_is k.awaiting);
    }

pub read-written : (x : Context) → context_of (octets_of x) ≡ Some x
unfolding context_of is_kept octets_of with_state parameters_at timers_at timers_number
read-written x =
    let p : Parameters = x.parameters in
    let t : Timers = x.timers in
    let b = bits p.orig p.comm p.datt p.uatt in
    let c = over_sixteen t.pres (four_number t.mmest t.term t.connreq t.nochannel) t.mmest t.term t.connreq t.nochannel (bits t.mmest t.term t.connreq t.nochannel) in
    let m = minded x.remembered in
    let k = talks x.talk in
    rw (parameters-four p, b.small, c.small, m.one_of, k.one_of, state-back x.state, m.back, k.back, b.eight, b.four, b.two, b.one, c.sixteen, c.eight, c.four, c.two, c.one)

-- ---- what is read is written back

bit_of : (n : ℕ) → n < 2 → bit (eqb n 1) ≡ n
bit_of n h = at_cond (λ (k : ℕ). k ≡ n) (eqb n 1) 1 0 (λ e. sym (eqb-true n 1 e)) (λ e. zero_left e)
  where
    zero_left : eqb n 1 ≡ false → 0 ≡ n
    zero_left e = omega (arith, eqb-false n 1 e)

four-back : (n : ℕ) → four_number (eqb (n / 8 % 2) 1) (eqb (n / 4 % 2) 1) (eqb (n / 2 % 2) 1) (eqb (n % 2) 1) ≡ n % 16
unfolding four_number
four-back n =
    let a : n / 8 ≡ 2 * (n / 16) + n / 8 % 2 = omega arith in
    let b : n / 4 ≡ 2 * (n / 8) + n / 4 % 2 = omega arith in
    let c : n / 2 ≡ 2 * (n / 4) + n / 2 % 2 = omega arith in
    let d : n ≡ 2 * (n / 2) + n % 2 = omega arith in
    rw (bit_of (n / 8 % 2) (omega arith), bit_of (n / 4 % 2) (omega arith), bit_of (n / 2 % 2) (omega arith), bit_of (n % 2) (omega arith)) (omega arith)

parameters-back : (n : ℕ) → n ≤ 15 → parameters_number (parameters_at n) ≡ n
unfolding parameters_at
parameters-back n h = parameters-four _ ∙ four-back n ∙ small
  where
    small : n % 16 ≡ n
    small = omega arith

timers-back : (n : ℕ) → n ≤ 31 → timers_number (timers_at n) ≡ n
unfolding timers_number timers_at
timers-back n h = rw (bit_of (n / 16 % 2) (omega arith), four-back n) (omega arith)

-- A state's number is the one that it was read from.
abbrev From : ℕ → Option State → Type 0
From n (Some s) = number_of s ≡ n
From n None = Unit

state_from : (n : ℕ) → From n (state_at n)
unfolding state_at
state_from n =
    at_cond (From n) (eqb n 0) _ _ (λ e. sym (eqb-true n 0 e)) λ e.
    at_cond (From n) (eqb n 1) _ _ (λ e. sym (eqb-true n 1 e)) λ e.
    at_cond (From n) (eqb n 2) _ _ (λ e. sym (eqb-true n 2 e)) λ e.
    at_cond (From n) (eqb n 3) _ _ (λ e. sym (eqb-true n 3 e)) λ e.
    at_cond (From n) (eqb n 4) _ _ (λ e. sym (eqb-true n 4 e)) λ e.
    at_cond (From n) (eqb n 5) _ _ (λ e. sym (eqb-true n 5 e)) λ e.
    at_cond (From n) (eqb n 6) _ _ (λ e. sym (eqb-true n 6 e)) λ e.
    at_cond (From n) (eqb n 7) _ _ (λ e. sym (eqb-true n 7 e)) λ e.
    at_cond (From n) (eqb n 8) _ _ (λ e. sym (eqb-true n 8 e)) λ e.
    at_cond (From n) (eqb n 9) _ _ (λ e. sym (eqb-true n 9 e)) λ e.
    at_cond (From n) (eqb n 10) _ _ (λ e. sym (eqb-true n 10 e)) λ e.
    at_cond (From n) (eqb n 11) _ _ (λ e. sym (eqb-true n 11 e)) λ e.
    at_cond (From n) (eqb n 12) _ _ (λ e. sym (eqb-true n 12 e)) λ e.
    at_cond (From n) (eqb n 13) _ _ (λ e. sym (eqb-true n 13 e)) λ e. tt

-- So is what is remembered.
one_left : (b : Bool) → (b || false) ≡ true → b ≡ true
one_left true e = refl
one_left false e = e

minded_from : (n : ℕ) → is_remembered n ≡ true → remembered_number (remembered_at n) ≡ n
unfolding remembered_number is_remembered remembered_at
minded_from n e =
    at_cond (λ (r : Remembered). remembered_number r ≡ n) (eqb n 2) Remembered.U1 _ (λ p. sym (eqb-true n 2 p)) λ p.
    at_cond (λ (r : Remembered). remembered_number r ≡ n) (eqb n 3) Remembered.U2 _ (λ q. sym (eqb-true n 3 q)) λ q.
    at_cond (λ (r : Remembered). remembered_number r ≡ n) (eqb n 8) Remembered.U2sl _ (λ r. sym (eqb-true n 8 r)) λ r.
    at_cond (λ (r : Remembered). remembered_number r ≡ n) (eqb n 9) Remembered.U2wr _ (λ s. sym (eqb-true n 9 s)) λ s.
    at_cond (λ (r : Remembered). remembered_number r ≡ n) (eqb n 11) Remembered.U2ws _ (λ t. sym (eqb-true n 11 t)) λ t.
    at_cond (λ (r : Remembered). remembered_number r ≡ n) (eqb n 12) Remembered.U2sr _ (λ u. sym (eqb-true n 12 u)) λ u.
    sym (eqb-true n 0 (one_left (eqb n 0) (one_left _ (rw (p, q, r, s, t, u) at e))))

-- And so is what a group call keeps.
chosen_from : (n : ℕ) → n ≤ 2 → chooser_number (chooser_at n) ≡ n
unfolding chooser_at
chosen_from n h =
    at_cond (λ (c : Chooser). chooser_number c ≡ n) (eqb n 1) Us _ (λ p. sym (eqb-true n 1 p)) λ p.
    at_cond (λ (c : Chooser). chooser_number c ≡ n) (eqb n 2) Cell _ (λ q. sym (eqb-true n 2 q)) λ q.
    omega (arith, eqb-false n 1 p, eqb-false n 2 q)

talks_from : (n : ℕ) → is_talk n ≡ true → talk_number (talk_at n) ≡ n
unfolding talk_number talk_at is_talk
talks_from n e =
    let h : n ≤ 31 = leb-true n 31 (and_left (leb n 31) _ e) in
    let k : n % 4 ≤ 2 = leb-true (n % 4) 2 (and_right (leb n 31) _ e) in
    let a : n / 8 ≡ 2 * (n / 16) + n / 8 % 2 = omega arith in
    let b : n / 4 ≡ 2 * (n / 8) + n / 4 % 2 = omega arith in
    let d : n ≡ 4 * (n / 4) + n % 4 = omega arith in
    rw (bit_of (n / 16 % 2) (omega arith), bit_of (n / 8 % 2) (omega arith), bit_of (n / 4 % 2) (omega arith), chosen_from (n % 4) k) (omega arith)

-- What kept octets are.
record Kept (s : List ℕ) : Type 0 where
  parameters : get_or s 1 0 ≤ 15
  timers : get_or s 2 0 ≤ 31
  remembered : is_remembered (get_or s 8 0) ≡ true
  talk : is_talk (get_or s 9 0) ≡ true
  zeros : listed 6 10 s ≡ 0 ∷ 0 ∷ 0 ∷ 0 ∷ 0 ∷ 0 ∷ []

is_zero : (n : ℕ) (b : Bool) → (eqb n 0 && b) ≡ true → n ≡ 0
is_zero n b e = eqb-true n 0 (and_left (eqb n 0) b e)

kept : (s : List ℕ) → is_kept s ≡ true → Kept s
unfolding is_kept
kept s e =
    let low : (leb (get_or s 2 0) 31 && _) ≡ true = and_right (leb (get_or s 1 0) 15) _ e in
    let rest = and_right (leb (get_or s 2 0) 31) _ low in
    let a = and_left _ (eqb (get_or s 12 0) 0 && (eqb (get_or s 13 0) 0 && (eqb (get_or s 14 0) 0 && eqb (get_or s 15 0) 0))) rest in
    let b = and_right ((is_remembered (get_or s 8 0) && is_talk (get_or s 9 0)) && (eqb (get_or s 10 0) 0 && eqb (get_or s 11 0) 0)) _ rest in
    let said = and_left (is_remembered (get_or s 8 0) && is_talk (get_or s 9 0)) _ a in
    let a1 = and_right (is_remembered (get_or s 8 0) && is_talk (get_or s 9 0)) _ a in
    let b1 = and_right (eqb (get_or s 12 0) 0) _ b in
    let b2 = and_right (eqb (get_or s 13 0) 0) _ b1 in
    record {
      parameters = leb-true (get_or s 1 0) 15 (and_left (leb (get_or s 1 0) 15) _ e);
      timers = leb-true (get_or s 2 0) 31 (and_left (leb (get_or s 2 0) 31) _ low);
      remembered = and_left (is_remembered (get_or s 8 0)) _ said;
      talk = and_right (is_remembered (get_or s 8 0)) _ said;
      zeros = rw (
        is_zero (get_or s 10 0) _ a1,
        eqb-true (get_or s 11 0) 0 (and_right (eqb (get_or s 10 0) 0) _ a1),
        is_zero (get_or s 12 0) _ b,
        is_zero (get_or s 13 0) _ b1,
        is_zero (get_or s 14 0) _ b2,
        eqb-true (get_or s 15 0) 0 (and_right (eqb (get_or s 14 0) 0) _ b2),
      );
    }

-- The octets that a context was read from are written of it.
abbrev pub Written : List ℕ → Option Context → Type 0
Written s (Some x) = octets_of x ≡ s
Written s None = Unit

state-written : (s : List ℕ) → length s ≡ 16 → Kept s → (t : Option State) → From (get_or s 0 0) t → Written s (option_map (with_state s) t)
unfolding octets_of with_state
state-written s l k (Some state) f =
    rw (f, parameters-back (get_or s 1 0) k.parameters, timers-back (get_or s 2 0) k.timers, minded_from (get_or s 8 0) k.remembered, talks_from (get_or s 9 0) k.talk, ← k.zeros) (sym (all_listed 16 s l))
state-written s l k None f = tt

pub written_read : (s : List ℕ) → length s ≡ 16 → Written s (context_of s)
unfolding context_of
written_read s l =
    at_cond (Written s) (is_kept s) _ _ (λ e. state-written s l (kept s e) (state_at (get_or s 0 0)) (state_from (get_or s 0 0))) (λ e. tt)

-- The same of a reading that is known.
pub written_back : (s : List ℕ) (x : Context) → length s ≡ 16 → context_of s ≡ Some x → octets_of x ≡ s
written_back s x l e = subst (Written s) e (written_read s l)
