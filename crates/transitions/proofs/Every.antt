-- What a test finds of every row of a table holds of whatever the table decides.
use Prim.Native.Nat.{ℕ}
use mathlib.Core.Path.{◌≡◌, refl, sym, subst}
use mathlib.Core.List.{List, [], ◌∷◌, ◌++◌}
use mathlib.Core.Bool.{Bool, true, false, not, ◌&&◌, ◌||◌}
use lib.Dec.{eqb}
use borrow.Author.Tests.{eqb-true}
use Rattle.octets.specs.Rows.{rows}
use Rattle.octets.proofs.Choice.{at_cond}
use Rattle.codes.specs.declared.state.State.{State}
use Rattle.codes.specs.declared.state.State.TheVariants.{U0}
use Rattle.timer.specs.declared.Timers.{Timers}
use Rattle.timer.specs.Timers.{any_on}
use Rattle.context.specs.declared.Context.{Context}
use Rattle.context.specs.declared.Remembered.{Remembered}
use Rattle.context.specs.States.{same}
use Rattle.context.proofs.States.{same-state}
use Rattle.context.proofs.Whole.{and_left, and_right, if_so, of_timers, at_timers, of_remembered, at_remembered}
use Rattle.transitions.specs.declared.Taken.{Taken}
use Rattle.transitions.specs.declared.Decision.{Decision}
use Rattle.transitions.specs.declared.Decision.TheVariants.{Take, NoStep, Ignore, Report, TellStatus, SetParameters}
use Rattle.transitions.specs.Table.{
  Occasion,
  event,
  message,
  Asked,
  nothing,
  ORIG,
  running,
  pending,
  Place,
  Next,
  Actions,
  Effect,
  Row,
  row,
  met,
  taken,
  in_place,
  events_in,
  messages_in,
  types_in,
  heard_in,
  happened_in,
  decided_in,
  decided_by,
}

-- A row's event number.
abbrev pub number_in : Occasion → ℕ
number_in (event n) = n
number_in (message code) = 18

-- A test of a row where it holds: its event number, the state, the timers that run there, what is remembered, and what is taken.
abbrev pub Test : Type 0
Test = ℕ → State → Timers → Remembered → Taken → Bool

-- What is asked may be so where these timers run.
abbrev pub possible : Asked → Timers → Bool
possible nothing t = true
possible ORIG t = true
possible (running k) t = any_on k t
possible pending t = true

-- The test at a place, whichever timers run and whatever is remembered.
abbrev at_place : Test → Place → ℕ → Next → Actions → List Effect → Bool
at_place test p n next actions effects =
    of_timers (λ t. of_remembered (λ r. not (possible p.1 t) || test n p.0 t r (taken p.0 t r next actions effects)))

-- The test at each of a row's places.
abbrev at_places : Test → List Place → ℕ → Next → Actions → List Effect → Bool
at_places test [] n next actions effects = true
at_places test (p ∷ ps) n next actions effects =
    at_place test p n next actions effects && at_places test ps n next actions effects

-- Every row passes the test.
abbrev pub passes : Test → List Row → Bool
passes test [] = true
passes test (row places occasion next actions effects ∷ more) = at_places test places (number_in occasion) next actions effects && passes test more

-- Every row of a list.
abbrev All : (ℕ → Decision → Type 0) → List (ℕ × Decision) → Type 0
All P [] = Unit {0}
All P (r ∷ rs) = P r.0 r.1 × All P rs

every : (P : ℕ → Decision → Type 0) (n : ℕ) (d : Decision) (rs : List (ℕ × Decision)) → P n d → All P rs → P n (rows n d rs)
every P n d [] p ps = p
every P n d (r ∷ rs) p ps =
    at_cond (P n) (eqb n r.0) r.1 (rows n d rs) (λ e. subst (λ k. P k r.1) (sym (eqb-true n r.0 e)) ps.0) (λ e. every P n d rs p ps.1)

both : (P : ℕ → Decision → Type 0) (rs qs : List (ℕ × Decision)) → All P rs → All P qs → All P (rs ++ qs)
both P [] qs p q = q
both P (r ∷ rs) qs p q = (p.0, both P rs qs p.1 q)

met-possible : (a : Asked) (x : Context) → met a x ≡ true → possible a x.timers ≡ true
met-possible nothing x m = refl
met-possible ORIG x m = refl
met-possible (running k) x m = m
met-possible pending x m = refl

-- The section is over the test, what it is to show of a decision, and what holds of the decisions that are no row.
module _ (test : Test) (P : ℕ → Decision → Type 0) (x : Context) (takes : (n : ℕ) (d : Taken) → test n x.state x.timers x.remembered d ≡ true → P n (Take d))
    (none : (n : ℕ) → P n NoStep) (reports : (cause : ℕ) → P 18 (Report cause)) where
  -- The test of a place, in the context's state and where its timers run.
  tested : (n : ℕ) (p : Place) (next : Next) (actions : Actions) (effects : List Effect)
      → at_place test p n next actions effects ≡ true → same x.state p.0 ≡ true
      → met p.1 x ≡ true → test n x.state x.timers x.remembered (taken x.state x.timers x.remembered next actions effects) ≡ true
  tested n p next actions effects e s m =
      subst (λ s. test n s x.timers x.remembered (taken s x.timers x.remembered next actions effects) ≡ true) (sym (same-state x.state p.0 s))
      (if_so (possible p.1 x.timers) _
      (at_remembered (λ r. not (possible p.1 x.timers) || test n p.0 x.timers r (taken p.0 x.timers r next actions effects))
      (at_timers (λ t. of_remembered (λ r. not (possible p.1 t) || test n p.0 t r (taken p.0 t r next actions effects))) e x.timers) x.remembered)
      (met-possible p.1 x m))

  placed : (n : ℕ) (places : List Place) (next : Next) (actions : Actions) (effects : List Effect) (unmet : Decision) (Q : List (ℕ × Decision) → Type 0)
      (here : Decision → List (ℕ × Decision)) (more : List (ℕ × Decision)) → at_places test places n next actions effects ≡ true → P n unmet
      → ((d : Decision) → P n d → Q (here d)) → Q more
      → Q (in_place x.state x places (Take (taken x.state x.timers x.remembered next actions effects)) unmet here more)
  placed n [] next actions effects unmet Q here more e u yes_way no_way = no_way
  placed n (p ∷ ps) next actions effects unmet Q here more e u yes_way no_way =
      let first = at_place test p n next actions effects in
      at_cond Q (same x.state p.0) _ _
      (λ s. yes_way _
      (at_cond (P n) (met p.1 x) _ _ (λ m. takes n _ (tested n p next actions effects (and_left first _ e) s m)) (λ m. u)))
      (λ s. placed n ps next actions effects unmet Q here more (and_right first _ e) u yes_way no_way)

  events_hold : (table : List Row) → passes test table ≡ true → All P (events_in x.state x table)
  events_hold [] e = tt
  events_hold (row places (event n) next actions effects ∷ more) e =
      let rest = events_hold more (and_right (at_places test places n next actions effects) _ e) in
      placed n places next actions effects NoStep (All P) (λ d. (n, d) ∷ events_in x.state x more) (events_in x.state x more)
      (and_left (at_places test places n next actions effects) _ e) (none n) (λ d p. (p, rest)) rest
  events_hold (row places (message code) next actions effects ∷ more) e =
      events_hold more (and_right (at_places test places 18 next actions effects) _ e)

  messages_hold : (table : List Row) → passes test table ≡ true → All (λ code d. P 18 d) (messages_in x.state x table)
  messages_hold [] e = tt
  messages_hold (row places (event n) next actions effects ∷ more) e = messages_hold more (and_right (at_places test places n next actions effects) _ e)
  messages_hold (row places (message code) next actions effects ∷ more) e =
      let rest = messages_hold more (and_right (at_places test places 18 next actions effects) _ e) in
      placed 18 places next actions effects (Report 98) (All (λ k d. P 18 d)) (λ d. (code, d) ∷ messages_in x.state x more) (messages_in x.state x more)
      (and_left (at_places test places 18 next actions effects) _ e) (reports 98) (λ d p. (p, rest)) rest

  -- Whatever a table decides, where every row passes the test.
  pub decided_holds : (table : List Row) → passes test table ≡ true → (same x.state U0 ≡ true → P 18 Ignore) → P 18 TellStatus → (same x.state U0 ≡ false → P 18 SetParameters)
      → (n code : ℕ) → P n (decided_by table x n code)
  unfolding decided_by decided_in heard_in happened_in
  decided_holds table e ignores tells sets n code =
      at_cond (P n) (eqb n 18) _ _
      (λ k. subst (λ m. P m (heard_in table x.state x code)) (sym (eqb-true n 18 k))
      (at_cond (P 18) (same x.state U0) Ignore _ ignores
      (λ q. every (λ k d. P 18 d) code (Report 97) (types_in table x.state x) (reports 97)
      (both (λ k d. P 18 d) (messages_in x.state x table) _ (messages_hold table e)
      (tells, (sets q, (reports 98, (reports 98, (reports 98, (reports 98, (reports 98, (reports 98, (reports 98, (reports 98, (reports 98, tt)))))))))))))))
      (λ k. every P n NoStep (events_in x.state x table) (none n) (events_hold table e))
