-- Decimal digits, as they are written and read: a number of at most six digits gives its digits, and decimal digits with no leading zero are their number's.
use Prim.Native.Nat.{ℕ, zero, suc, ◌+◌, ◌-◌, ◌*◌, ◌/◌, ◌%◌, ◌≤◌, ◌<◌}
use mathlib.Core.Path.{◌≡◌, refl, sym, ap, ◌∙◌}
use mathlib.Core.Bool.{Bool, true, false, cond, not}
use mathlib.Core.List.{List, [], ◌∷◌, ◌++◌, append-nil}
use native.Mathlib.Omega.{arith}
use borrow.Author.Tests.{lt-ltb, ltb-true, leb-true, leb-false, le-leb, eqb-true, eqb-false, eq-eqb, ne_eqb}
use lib.Dec.{leb, eqb}
use lib.ListN.{length, get_or}
use Rattle.octets.proofs.Choice.{never}
use Rattle.settings_values.specs.Digits.{digit, digits, number_from}
use Rattle.settings_values.specs.Values.{is_milliseconds}
use Rattle.settings_values.proofs.Digits.{number_grows}
use Rattle.settings_fit.specs.Written.{digits_to, decimal_text}
use Rattle.settings_fit.proofs.Texts.{both, digit_low, digit-low_is}

-- The text does not begin with the digit 0.
abbrev NoZero : List ℕ → Type 0
NoZero text = get_or text 0 0 ≡ 0x30 → ⊥

-- A number has no more digits than these.
Fits : ℕ → ℕ → Type 0
Fits zero n = n ≡ 0
Fits (suc left) n = Fits left (n / 10)

-- What is read of digits that were written.
record Written-back (n : ℕ) (behind text : List ℕ) : Type 0 where
  digits-all : digits 10 text ≡ true
  number : number_from 0 text ≡ number_from n behind
  lead : NoZero text

written_back : (left n : ℕ) (behind : List ℕ) → Fits left n → digits 10 behind ≡ true → (n ≡ 0 → NoZero behind) → Written-back n behind (digits_to left n behind)
unfolding digits_to Fits digits number_from
written_back zero n behind f d z = rw f record { digits-all = d; number = refl; lead = z f }
written_back (suc left) n behind f d z = go (eqb n 0) refl (written_back left (n / 10) ((0x30 + n % 10) ∷ behind) f)
  where
    go : (t : Bool) → eqb n 0 ≡ t
        → (digits 10 ((0x30 + n % 10) ∷ behind) ≡ true → (n / 10 ≡ 0 → NoZero ((0x30 + n % 10) ∷ behind))
        → Written-back (n / 10) ((0x30 + n % 10) ∷ behind) (digits_to left (n / 10) ((0x30 + n % 10) ∷ behind)))
        → Written-back n behind (cond t behind (digits_to left (n / 10) ((0x30 + n % 10) ∷ behind)))
    go true q ih = let e : n ≡ 0 = eqb-true n 0 q in record { digits-all = d; number = rw e; lead = z e }
    go false q ih =
        let some : n ≡ 0 → ⊥ = eqb-false n 0 q in
        let low : digit (0x30 + n % 10) ≡ n % 10 = digit_low (n % 10) (omega arith) in
        let whole : 10 * (n / 10) + n % 10 ≡ n = omega arith in
        let b = ih (rw (low, lt-ltb (n % 10) 10 (omega arith)) d) (λ e k. some (omega arith)) in
        record { digits-all = b.digits-all; number = b.number ∙ rw (low, whole); lead = b.lead }

-- A timer's milliseconds, read again.
pub milliseconds-back : (least greatest n : ℕ) → 0 < least → greatest < 1000000 → least ≤ n → n ≤ greatest
    → (is_milliseconds least greatest (decimal_text n) ≡ true) × (number_from 0 (decimal_text n) ≡ n) × (digits 10 (decimal_text n) ≡ true)
unfolding Fits digits number_from
milliseconds-back least greatest n some few low high =
    let f : Fits 6 n = omega arith in
    let b : Written-back n [] (decimal_text n) = written_back 6 n [] f refl (λ e. let z : ⊥ = omega arith in elim z [ ]) in
    let same : number_from 0 (decimal_text n) ≡ n = b.number in
    (rw (b.digits-all, ne_eqb _ _ b.lead, same, le-leb least n low, le-leb n greatest high), same, b.digits-all)

-- No digits are left of 0.
digits-none : (left : ℕ) (behind : List ℕ) → digits_to left 0 behind ≡ behind
unfolding digits_to
digits-none zero behind = refl
digits-none (suc left) behind = refl

-- Digits behind those of `n` write their number's digits, if no zero leads.
digits_are : (text : List ℕ) (left n : ℕ) (behind : List ℕ) → digits 10 text ≡ true → (n ≡ 0 → NoZero text)
    → digits_to (left + length text) (number_from n text) behind ≡ digits_to left n (text ++ behind)
unfolding digits number_from digits_to
digits_are [] left n behind e z = let k : left + 0 ≡ left = omega arith in rw k
digits_are (b ∷ text) left n behind e z =
    let p = both _ _ e in
    let d : digit b < 10 = ltb-true _ _ p.0 in
    let b-is : b ≡ 0x30 + digit b = digit-low_is b d in
    let some : 10 * n + digit b ≡ 0 → ⊥ = λ k. z (omega arith) (omega arith) in
    let high : (10 * n + digit b) / 10 ≡ n = omega arith in
    let low : (10 * n + digit b) % 10 ≡ digit b = omega arith in
    let count : left + suc (length text) ≡ suc left + length text = omega arith in
    rw count (digits_are text (suc left) (10 * n + digit b) behind p.1 (λ k. elim (some k) [ ]) ∙ next some high low (sym b-is))
  where
    next : (10 * n + digit b ≡ 0 → ⊥) → (10 * n + digit b) / 10 ≡ n → (10 * n + digit b) % 10 ≡ digit b → 0x30 + digit b ≡ b
        → digits_to (suc left) (10 * n + digit b) (text ++ behind) ≡ digits_to left n (b ∷ text ++ behind)
    next some high low same = rw (ne_eqb (10 * n + digit b) 0 some, high, low, same)

-- Each digit behind a number makes it ten times as great, or more.
tens : ℕ → ℕ → ℕ
tens n zero = n
tens n (suc count) = tens (10 * n) count

tens_more : (count m n : ℕ) → m ≤ n → tens m count ≤ tens n count
unfolding tens
tens_more zero m n h = h
tens_more (suc count) m n h = tens_more count (10 * m) (10 * n) (omega arith)

number_over : (count n : ℕ) (text : List ℕ) → count ≤ length text → tens n count ≤ number_from n text
unfolding tens number_from
number_over zero n text h = number_grows n text
number_over (suc count) n [] h = let z : ⊥ = omega arith in elim z [ ]
number_over (suc count) n (b ∷ text) h =
    let i : tens (10 * n + digit b) count ≤ number_from (10 * n + digit b) text = number_over count (10 * n + digit b) text (omega arith) in
    let t : tens (10 * n) count ≤ tens (10 * n + digit b) count = tens_more count _ _ (omega arith) in
    omega arith

-- A number below a million has at most six digits, if no zero leads.
few-digits : (text : List ℕ) → digits 10 text ≡ true → NoZero text → number_from 0 text < 1000000 → length text ≤ 6
unfolding digits number_from tens
few-digits [] e f h = omega arith
few-digits (b ∷ text) e f h = at_most (leb (length text) 5) refl
  where
    at_most : (t : Bool) → leb (length text) 5 ≡ t → suc (length text) ≤ 6
    at_most true q = let k : length text ≤ 5 = leb-true _ _ q in omega arith
    at_most false q =
        let k : 5 < length text = leb-false _ _ q in
        let d : digit b < 10 = ltb-true _ _ (both _ _ e).0 in
        let b-is : b ≡ 0x30 + digit b = digit-low_is b d in
        let some : digit b ≡ 0 → ⊥ = λ z. f (omega arith) in
        let o : tens (10 * 0 + digit b) 6 ≤ number_from (10 * 0 + digit b) text = number_over 6 (10 * 0 + digit b) text (omega arith) in
        let z : ⊥ = omega arith in elim z [ ]

-- A text that is a timer is its number's digits, and the number is in the range.
pub record Timed (least greatest : ℕ) (text : List ℕ) : Type 0 where
  pub same : text ≡ decimal_text (number_from 0 text)
  pub low : least ≤ number_from 0 text
  pub high : number_from 0 text ≤ greatest

pub milliseconds_are : (least greatest : ℕ) (text : List ℕ) → greatest < 1000000 → is_milliseconds least greatest text ≡ true → Timed least greatest text
milliseconds_are least greatest text few e =
    let p = both _ _ e in
    let q = both _ _ p.0 in
    let r = both _ _ q.0 in
    let f : NoZero text = λ k. never (sym (ap not (eq-eqb (get_or text 0 0) 0x30 k)) ∙ r.1) in
    let g : number_from 0 text ≤ greatest = leb-true _ _ p.1 in
    let c : length text ≤ 6 = few-digits text r.0 f (omega arith) in
    let six : 6 - length text + length text ≡ 6 = omega arith in
    let d : digits_to (6 - length text + length text) (number_from 0 text) [] ≡ digits_to (6 - length text) 0 (text ++ []) = digits_are text (6 - length text) 0 [] r.0 (λ _. f) in
    record {
      same = sym (append-nil text) ∙ sym (digits-none (6 - length text) (text ++ [])) ∙ sym d ∙ rw six;
      low = leb-true _ _ q.1;
      high = g;
    }
