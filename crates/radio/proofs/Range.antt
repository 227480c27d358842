-- What the tests of a step that is not refused say of its arguments.
use Prim.Native.Nat.{ℕ, ◌≤◌, ◌<◌}
use mathlib.Core.Path.{◌≡◌, refl, sym}
use mathlib.Core.Bool.{Bool, true, false, cond, not, ◌&&◌, ◌||◌}
use native.Mathlib.Omega.{arith}
use lib.Dec.{eqb, leb, ltb}
use borrow.Author.Tests.{ltb-false, eqb-false, not-false, le-leb, le-ltb}
use Rattle.octets.proofs.Choice.{never}
use Rattle.version.specs.declared.Table.{Table}
use Rattle.version.specs.Version.{has_event}
use Rattle.context.specs.declared.Context.{Context}
use Rattle.fitness.specs.Tables.{fit_of}
use Rattle.step_arguments.specs.Arguments.{settings_out, out_of_range, argument_refusal}
use Rattle.radio.specs.declared.Happened.{Happened}
use Rattle.radio.specs.Step.{fitness_refusal, refusal_of}

pub neither_first : (a b : Bool) → (a || b) ≡ false → a ≡ false
neither_first true b e = e
neither_first false b e = refl

pub neither_second : (a b : Bool) → (a || b) ≡ false → b ≡ false
neither_second true b e = never (sym e)
neither_second false b e = e

-- The number of a refusal by its four tests. No refusal: each test was passed.
abbrev pub by_tests : Bool → Bool → Bool → Bool → ℕ
by_tests a b c d = cond (eqb (cond a 7 0) 0) (cond b 5 (cond c 6 (cond d 4 0))) (cond a 7 0)

chosen : (a b c d : Bool) → by_tests a b c d ≡ 0 → (a ≡ false) × ((b ≡ false) × ((c ≡ false) × (d ≡ false)))
chosen true b c d e = let z : ⊥ = omega arith in elim z [ ]
chosen false true c d e = let z : ⊥ = omega arith in elim z [ ]
chosen false false true d e = let z : ⊥ = omega arith in elim z [ ]
chosen false false false true e = let z : ⊥ = omega arith in elim z [ ]
chosen false false false false e = (refl, (refl, (refl, refl)))

positive : (n : ℕ) → (n ≡ 0 → ⊥) → 1 ≤ n
positive n h = omega arith

module _ (table : Table) where
  -- What holds of a step that is not refused.
  pub record InRange (x : Context) (key identity : ℕ) (h : Happened) (octets room : ℕ) : Type 0 where
    pub fit : fit_of table x ≡ true
    pub big : 255 ≤ room
    pub known : key ≤ 7
    pub least : 1 ≤ identity
    pub most : identity ≤ 8
    pub short : eqb h.number 18 && ltb 251 octets ≡ false
    pub range : out_of_range (has_event table h.number) key identity h.number h.value h.mode ≡ false

  pub in_range : (x : Context) (key identity : ℕ) (h : Happened) (octets room : ℕ) → refusal_of table x key identity h octets room ≡ 0 → InRange x key identity h octets room
  unfolding refusal_of fitness_refusal argument_refusal out_of_range settings_out
  in_range x key identity h octets room e =
      let p = chosen (not (fit_of table x)) (ltb room 255) (eqb h.number 18 && ltb 251 octets) (out_of_range (has_event table h.number) key identity h.number h.value h.mode) e in
      let o = p.1.1.1 in
      let settings = neither_first (settings_out key identity) _ o in
      let r = neither_second (ltb 7 key) _ settings in
      let n : identity ≡ 0 → ⊥ = eqb-false identity 0 (neither_first (eqb identity 0) _ r) in
      record {
        fit = not-false (fit_of table x) p.0;
        big = ltb-false room 255 p.1.0;
        known = ltb-false 7 key (neither_first (ltb 7 key) _ settings);
        least = positive identity n;
        most = ltb-false 8 identity (neither_second (eqb identity 0) _ r);
        short = p.1.1.0;
        range = o;
      }

  -- The other way round: a step that passes each test is not refused.
  pub passed : (x : Context) (key identity : ℕ) (h : Happened) (octets room : ℕ) → fit_of table x ≡ true → 255 ≤ room → eqb h.number 18 && ltb 251 octets ≡ false
      → out_of_range (has_event table h.number) key identity h.number h.value h.mode ≡ false → refusal_of table x key identity h octets room ≡ 0
  unfolding refusal_of fitness_refusal argument_refusal
  passed x key identity h octets room f r o g = rw (f, le-ltb room 255 r, o, g)

  -- A refusal's number is over 3, and at most 7.
  pub refused_over : (x : Context) (key identity : ℕ) (h : Happened) (octets room : ℕ) → (refusal_of table x key identity h octets room ≡ 0 → ⊥)
      → 3 < (refusal_of table) x key identity h octets room
  unfolding refusal_of fitness_refusal argument_refusal
  refused_over x key identity h octets room = go (not (fit_of table x)) (ltb room 255) (eqb h.number 18 && ltb 251 octets) (out_of_range (has_event table h.number) key identity h.number h.value h.mode)
    where
      go : (a b c d : Bool) → (by_tests a b c d ≡ 0 → ⊥) → 3 < by_tests a b c d
      go true b c d n = omega arith
      go false true c d n = omega arith
      go false false true d n = omega arith
      go false false false true n = omega arith
      go false false false false n = absurd (n refl)

  -- So it is never 1.
  pub refused-not_1 : (x : Context) (key identity : ℕ) (h : Happened) (octets room : ℕ) → refusal_of table x key identity h octets room ≡ 1 → ⊥
  refused-not_1 x key identity h octets room e =
      let n : refusal_of table x key identity h octets room ≡ 0 → ⊥ = λ z. omega (arith, e, z) in
      let o : 3 < (refusal_of table) x key identity h octets room = refused_over x key identity h octets room n in
      omega (arith, e, o)

  pub refused-most : (x : Context) (key identity : ℕ) (h : Happened) (octets room : ℕ) → refusal_of table x key identity h octets room ≤ 7
  unfolding refusal_of fitness_refusal argument_refusal
  refused-most x key identity h octets room = go (not (fit_of table x)) (ltb room 255) (eqb h.number 18 && ltb 251 octets) (out_of_range (has_event table h.number) key identity h.number h.value h.mode)
    where
      go : (a b c d : Bool) → by_tests a b c d ≤ 7
      go true b c d = omega arith
      go false true c d = omega arith
      go false false true d = omega arith
      go false false false true = omega arith
      go false false false false = omega arith

-- What the tests of range say of an event that passes them.
module _ (known : Bool) (key identity : ℕ) (h : Happened) (e : out_of_range known key identity h.number h.value h.mode ≡ false) where
  event_tests : not known
      || (eqb h.number 18 && ltb 1 h.mode || (eqb h.number 1 || (eqb h.number 2 || eqb h.number 10)) && ltb 6 h.value) ≡ false
  unfolding out_of_range
  event_tests = neither_second (settings_out key identity) _ e

  data_tests : eqb h.number 18 && ltb 1 h.mode || (eqb h.number 1 || (eqb h.number 2 || eqb h.number 10)) && ltb 6 h.value ≡ false
  data_tests = neither_second (not known) _ event_tests

  -- The table has it.
  pub number-known : known ≡ true
  number-known = not-false known (neither_first (not known) _ event_tests)

  -- The mode of a message received is 0 or 1.
  pub mode-most : eqb h.number 18 ≡ true → h.mode ≤ 1
  mode-most c =
      let g : eqb h.number 18 && ltb 1 h.mode ≡ false = neither_first (eqb h.number 18 && ltb 1 h.mode) _ data_tests in
      let k : ltb 1 h.mode ≡ false = rw c at g in
      ltb-false 1 h.mode k

  -- The transaction value of an event that carries one is at most 6.
  pub value-most : (eqb h.number 1 || (eqb h.number 2 || eqb h.number 10)) ≡ true → leb h.value 6 ≡ true
  value-most c =
      let g : (eqb h.number 1 || (eqb h.number 2 || eqb h.number 10)) && ltb 6 h.value ≡ false = neither_second (eqb h.number 18 && ltb 1 h.mode) _ data_tests in
      let k : ltb 6 h.value ≡ false = rw c at g in
      le-leb _ _ (ltb-false 6 h.value k)
