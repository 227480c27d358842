-- Where at most one timer runs, its number says which timers run; and where at most one may run, at most one does.
use mathlib.Core.Path.{◌≡◌, refl, sym}
use mathlib.Core.Bool.{Bool, true, false, not, ◌||◌}
use lib.Dec.{leb}
use borrow.Author.Tests.{not-true}
use Rattle.timer.specs.declared.Timers.{Timers}
use Rattle.timer.specs.Timers.{is_on, of_each, how_many, running_among, alone}
use Rattle.timer.proofs.Whole.{and_left, and_right, if_so, of_timers, at_timers}

abbrev same_bool : Bool → Bool → Bool
same_bool true b = b
same_bool false b = not b

same_bool_lem : (a b : Bool) → same_bool a b ≡ true → a ≡ b
same_bool_lem true b e = sym e
same_bool_lem false b e = sym (not-true b e)

abbrev same_timers : Timers → Timers → Bool
same_timers t u = of_each (λ k. same_bool (is_on k t) (is_on k u))

same-timers : (t u : Timers) → same_timers t u ≡ true → t ≡ u
same-timers t u same =
    let a : t.mmest ≡ u.mmest = same_bool_lem _ _ (and_left (same_bool t.mmest u.mmest) _ same) in
    let r = and_right (same_bool t.mmest u.mmest) _ same in
    let b : t.term ≡ u.term = same_bool_lem _ _ (and_left (same_bool t.term u.term) _ r) in
    let q = and_right (same_bool t.term u.term) _ r in
    let c : t.connreq ≡ u.connreq = same_bool_lem _ _ (and_left (same_bool t.connreq u.connreq) _ q) in
    let p = and_right (same_bool t.connreq u.connreq) _ q in
    let d : t.nochannel ≡ u.nochannel = same_bool_lem _ _ (and_left (same_bool t.nochannel u.nochannel) _ p) in
    let e : t.pres ≡ u.pres = same_bool_lem _ _ (and_right (same_bool t.nochannel u.nochannel) _ p) in
    rw (a, b, c, d, e)

abbrev lone : Timers → Bool
lone t = not (leb (how_many t) 1) || same_timers t (alone (running_among t))

pub few-alone : (t : Timers) → leb (how_many t) 1 ≡ true → t ≡ alone (running_among t)
unfolding running_among alone
few-alone t few = same-timers _ _ (if_so _ _ (at_timers lone refl t) few)

-- Those that run are among those that may.
abbrev pub within : Timers → Timers → Bool
within t may = of_each (λ k. not (is_on k t) || is_on k may)

abbrev fewer : Timers → Timers → Bool
fewer may t = not (within t may) || (not (leb (how_many may) 1) || leb (how_many t) 1)

pub few-within : (may t : Timers) → within t may ≡ true → leb (how_many may) 1 ≡ true → leb (how_many t) 1 ≡ true
few-within may t runs few = if_so _ _ (if_so _ _ (at_timers (fewer may) (at_timers (λ m. of_timers (fewer m)) refl may) t) runs) few
