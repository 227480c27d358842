-- Laws of the names by their number: which are seen, what a line adds to them, and how often each stands.
use Prim.Native.Nat.{ℕ, suc, ◌+◌, ◌<◌}
use mathlib.Core.Path.{◌≡◌, refl}
use mathlib.Core.Bool.{Bool, true, false, cond}
use mathlib.Core.List.{List, [], ◌∷◌, ◌++◌}
use native.Mathlib.Omega.{arith}
use borrow.Author.Tests.{eqb-true, eqb-false, eq-eqb}
use lib.Dec.{eqb}
use lib.ListN.{length, get_or, set}
use lib.Seq.{get_or-set_same, get_or-set_other}
use Rattle.std.specs.Prelude.{is_some}
use Rattle.settings_line.specs.declared.Seen.{Seen}
use Rattle.settings_line.specs.Line.{Setting, Key, Classmark, Identity, Joining, Invitation, Unreadable, with_key, with_classmark, with_identity, with_joining, with_invitation, once, turn_of}
use Rattle.settings_fit.specs.Written.{named, times}
use Rattle.settings_fit.specs.Promise.{name_of}

-- A flag as a number.
abbrev pub bit : Bool → ℕ
bit true = 1
bit false = 0

-- Which names are seen.
abbrev pub flags : Seen → List Bool
flags seen = is_some seen.key ∷ is_some seen.classmark ∷ is_some seen.identity ∷ is_some seen.joining ∷ is_some seen.invitation ∷ []

abbrev pub flag : List Bool → ℕ → Bool
flag marks name = get_or marks name false

-- What is seen behind a line that sets something.
abbrev pub next_of : Seen → Setting → Seen
next_of seen (Key n) = with_key seen n
next_of seen (Classmark octets) = with_classmark seen octets
next_of seen (Identity octets) = with_identity seen octets
next_of seen (Joining n) = with_joining seen n
next_of seen (Invitation n) = with_invitation seen n
next_of seen (Unreadable fault) = seen

-- A line that sets something is taken where its name is not seen, and marks it.
pub turn-named : (seen : Seen) (x : Setting) → name_of x < named → turn_of seen x ≡ once (flag (flags seen) (name_of x)) (next_of seen x)
unfolding turn_of
turn-named seen (Key n) h = refl
turn-named seen (Classmark octets) h = refl
turn-named seen (Identity octets) h = refl
turn-named seen (Joining n) h = refl
turn-named seen (Invitation n) h = refl
turn-named seen (Unreadable fault) h = let z : ⊥ = omega arith in elim z [ ]

pub flags-next : (seen : Seen) (x : Setting) → name_of x < named → flags (next_of seen x) ≡ set (flags seen) (name_of x) true
flags-next seen (Key n) h = refl
flags-next seen (Classmark octets) h = refl
flags-next seen (Identity octets) h = refl
flags-next seen (Joining n) h = refl
flags-next seen (Invitation n) h = refl
flags-next seen (Unreadable fault) h = let z : ⊥ = omega arith in elim z [ ]

-- How often a name stands behind one name more.
pub more : (name other : ℕ) (before : List ℕ) → times name (before ++ other ∷ []) ≡ times name before + times name (other ∷ [])
unfolding times
more name other [] = omega arith
more name other (m ∷ before) = go (eqb name m) (more name other before)
  where
    go : (t : Bool) → times name (before ++ other ∷ []) ≡ times name before + times name (other ∷ [])
        → cond t (suc (times name (before ++ other ∷ []))) (times name (before ++ other ∷ []))
        ≡ cond t (suc (times name before)) (times name before) + times name (other ∷ [])
    go true e = omega arith
    go false e = e

-- A name that was not marked stands once more, and is marked: what the marks and the count come to is one more for it, and the same for any other.
pub one_more_lem : (marks : List Bool) (other name : ℕ) → other < length marks → flag marks other ≡ false
    → bit (flag (set marks other true) name) ≡ bit (flag marks name) + times name (other ∷ [])
unfolding times
one_more_lem marks other name h f = go (eqb name other) refl
  where
    go : (t : Bool) → eqb name other ≡ t → bit (flag (set marks other true) name) ≡ bit (flag marks name) + cond t 1 0
    go true q =
        let e : name ≡ other = eqb-true name other q in
        rw (e, get_or-set_same marks other true false h, f)
    go false q =
        let e : name ≡ other → ⊥ = eqb-false name other q in
        rw (get_or-set_other marks other name true false e) (omega arith)

-- Each name is marked or stands once among the names to come.
abbrev pub Once : List Bool → List ℕ → Type 0
Once marks names = (name : ℕ) → name < named → bit (flag marks name) + times name names ≡ 1

once-false : (t : Bool) (n : ℕ) → bit t + suc n ≡ 1 → t ≡ false
once-false true n e = let z : ⊥ = omega arith in elim z [ ]
once-false false n e = refl

first_more : (name other : ℕ) (names : List ℕ) → times name (other ∷ names) ≡ times name (other ∷ []) + times name names
unfolding times
first_more name other names = go (eqb name other)
  where
    go : (t : Bool) → cond t (suc (times name names)) (times name names) ≡ cond t 1 0 + times name names
    go true = omega arith
    go false = omega arith

-- The first of the names to come was not marked; when it is, the same holds of those behind it.
module _ (marks : List Bool) (other : ℕ) (names : List ℕ) (room : other < length marks) (h : other < named) (o : Once marks (other ∷ names)) where
  pub once_new : flag marks other ≡ false
  unfolding times
  once_new = once-false (flag marks other) (times other names) (rw (eq-eqb other other refl) at (o other h))

  pub once-next : Once (set marks other true) names
  once-next name k =
      let p : bit (flag marks name) + times name (other ∷ names) ≡ 1 = o name k in
      let q : bit (flag (set marks other true) name) ≡ bit (flag marks name) + times name (other ∷ []) = one_more_lem marks other name room once_new in
      let s : times name (other ∷ names) ≡ times name (other ∷ []) + times name names = first_more name other names in
      omega arith
