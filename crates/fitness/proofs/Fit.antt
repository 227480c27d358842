-- What fitness says, by any descriptor: its parts, and that U0 is the cleared context.
use mathlib.Core.Path.{◌≡◌, refl, sym}
use mathlib.Core.Bool.{Bool, true, false, not, ◌&&◌, ◌||◌}
use lib.Dec.{eqb, leb}
use borrow.Author.Tests.{eqb-true, not-true}
use Rattle.codes.specs.declared.state.State.TheVariants.{U0}
use Rattle.octets.proofs.Choice.{never}
use Rattle.context.specs.declared.Context.{Context}
use Rattle.context.specs.declared.Remembered.{Remembered}
use Rattle.context.specs.declared.Remembered.TheVariants.{Nothing, U1, U2, U2sl, U2wr, U2ws, U2sr}
use Rattle.context.specs.declared.Chooser.{Chooser}
use Rattle.context.specs.declared.Chooser.TheVariants.{Neither, Us, Cell}
use Rattle.context.specs.Remembered.{is_something}
use Rattle.context.specs.States.{same, among}
use Rattle.context.specs.declared.Talk.{Talk}
use Rattle.context.specs.Talk.{no_talk, chooser_number}
use Rattle.context.specs.Context.{cleared}
use Rattle.context.proofs.Whole.{and_left, and_right, and_both, if_so}
use Rattle.fitness.specs.Fitness.{Fitness, consistent_by, timers_fit_by, remembered_fit_by, chooser_fit_by, pending_fit_by, talk_fit_by, is_silent, is_cleared, fit_by}

-- The parts of fitness.
module _ (d : Fitness) (x : Context) (fit : fit_by d x ≡ true) where
  in_state : (among x.state d.states && consistent_by d x.state x.parameters) ≡ true
  unfolding fit_by
  in_state = and_left (among x.state d.states && consistent_by d x.state x.parameters) _ fit

  pub fit-known : among x.state d.states ≡ true
  fit-known = and_left (among x.state d.states) _ in_state

  pub fit-consistent : consistent_by d x.state x.parameters ≡ true
  fit-consistent = and_right (among x.state d.states) _ in_state

  behind : (leb x.value 6
      && ((not (same x.state U0) || is_cleared x) && (timers_fit_by d x.state x.timers && (remembered_fit_by d x.state x.remembered && talk_fit_by d x)))) ≡ true
  unfolding fit_by
  behind = and_right (among x.state d.states && consistent_by d x.state x.parameters) _ fit

  pub fit-value : leb x.value 6 ≡ true
  fit-value = and_left (leb x.value 6) _ behind

  pub fit-cleared : (not (same x.state U0) || is_cleared x) ≡ true
  fit-cleared = and_left (not (same x.state U0) || is_cleared x) _ (and_right (leb x.value 6) _ behind)

  last : (timers_fit_by d x.state x.timers && (remembered_fit_by d x.state x.remembered && talk_fit_by d x)) ≡ true
  last = and_right (not (same x.state U0) || is_cleared x) _ (and_right (leb x.value 6) _ behind)

  pub fit-timers : timers_fit_by d x.state x.timers ≡ true
  fit-timers = and_left (timers_fit_by d x.state x.timers) _ last

  pub fit_remembered : remembered_fit_by d x.state x.remembered ≡ true
  fit_remembered = and_left (remembered_fit_by d x.state x.remembered) _ (and_right (timers_fit_by d x.state x.timers) _ last)

  pub fit_talk : talk_fit_by d x ≡ true
  fit_talk = and_right (remembered_fit_by d x.state x.remembered) _ (and_right (timers_fit_by d x.state x.timers) _ last)

  pub fit_chooser : chooser_fit_by d x.state x.remembered x.talk.chooser ≡ true
  unfolding talk_fit_by
  fit_chooser = and_left (chooser_fit_by d x.state x.remembered x.talk.chooser) _ fit_talk

  pub fit-pending : pending_fit_by d x.state x.parameters x.talk ≡ true
  unfolding talk_fit_by
  fit-pending = and_right (chooser_fit_by d x.state x.remembered x.talk.chooser) _ fit_talk

-- And back.
pub fit_made : (d : Fitness) (x : Context) → among x.state d.states ≡ true → consistent_by d x.state x.parameters ≡ true → leb x.value 6 ≡ true
    → (not (same x.state U0) || is_cleared x) ≡ true → timers_fit_by d x.state x.timers ≡ true → remembered_fit_by d x.state x.remembered ≡ true
    → talk_fit_by d x ≡ true → fit_by d x ≡ true
unfolding fit_by
fit_made d x known a b c e f g = and_both _ _ (and_both _ _ known a) (and_both _ _ b (and_both _ _ c (and_both _ _ e (and_both _ _ f g))))

none : (b : Bool) → not b ≡ true → b ≡ false
none b e = not-true b e

pub nothing_remembered : (r : Remembered) → is_something r ≡ false → r ≡ Nothing
nothing_remembered Nothing e = refl
nothing_remembered U1 e = never (sym e)
nothing_remembered U2 e = never (sym e)
nothing_remembered U2sl e = never (sym e)
nothing_remembered U2wr e = never (sym e)
nothing_remembered U2ws e = never (sym e)
nothing_remembered U2sr e = never (sym e)

chosen_by_neither : (c : Chooser) → eqb (chooser_number c) 0 ≡ true → c ≡ Neither
chosen_by_neither Neither e = refl
chosen_by_neither Us e = never e
chosen_by_neither Cell e = never e

-- Where nothing of a group call is kept.
pub silent_talk : (k : Talk) → is_silent k ≡ true → k ≡ no_talk
silent_talk k e =
    let e1 = and_right (eqb (chooser_number k.chooser) 0) _ e in
    let e2 = and_right (not k.termination) _ e1 in
    rw (
      chosen_by_neither k.chooser (and_left (eqb (chooser_number k.chooser) 0) _ e),
      none k.termination (and_left (not k.termination) _ e1),
      none k.status (and_left (not k.status) _ e2),
      none k.awaiting (and_right (not k.status) _ e2),
    )

-- A fit context in U0 is the cleared one.
pub fit_u0 : (d : Fitness) (x : Context) → fit_by d x ≡ true → x.state ≡ U0 → x ≡ cleared
unfolding cleared is_cleared
fit_u0 d x fit e =
    let s : same x.state U0 ≡ true = rw e in
    let all : is_cleared x ≡ true = if_so _ _ (fit-cleared d x fit) s in
    let p = and_left (not x.parameters.orig && (not x.parameters.comm && (not x.parameters.datt && not x.parameters.uatt))) _ all in
    let q = and_right (not x.parameters.orig && (not x.parameters.comm && (not x.parameters.datt && not x.parameters.uatt))) _ all in
    let t = and_left (not x.timers.mmest && (not x.timers.term && (not x.timers.connreq && (not x.timers.nochannel && not x.timers.pres)))) _ q in
    let n = and_right (not x.timers.mmest && (not x.timers.term && (not x.timers.connreq && (not x.timers.nochannel && not x.timers.pres)))) _ q in
    let w = and_right (eqb x.value 0) _ n in
    let z = and_left (eqb x.reference.first 0 && (eqb x.reference.second 0 && (eqb x.reference.third 0 && eqb x.reference.fourth 0))) _ w in
    let v = and_right (eqb x.reference.first 0 && (eqb x.reference.second 0 && (eqb x.reference.third 0 && eqb x.reference.fourth 0))) _ w in
    let m = and_left (not (is_something x.remembered)) _ v in
    let k = and_right (not (is_something x.remembered)) _ v in
    let p1 = and_right (not x.parameters.orig) _ p in
    let p2 = and_right (not x.parameters.comm) _ p1 in
    let t1 = and_right (not x.timers.mmest) _ t in
    let t2 = and_right (not x.timers.term) _ t1 in
    let t3 = and_right (not x.timers.connreq) _ t2 in
    let z1 = and_right (eqb x.reference.first 0) _ z in
    let z2 = and_right (eqb x.reference.second 0) _ z1 in
    rw (
      e,
      none x.parameters.orig (and_left (not x.parameters.orig) _ p),
      none x.parameters.comm (and_left (not x.parameters.comm) _ p1),
      none x.parameters.datt (and_left (not x.parameters.datt) _ p2),
      none x.parameters.uatt (and_right (not x.parameters.datt) _ p2),
      none x.timers.mmest (and_left (not x.timers.mmest) _ t),
      none x.timers.term (and_left (not x.timers.term) _ t1),
      none x.timers.connreq (and_left (not x.timers.connreq) _ t2),
      none x.timers.nochannel (and_left (not x.timers.nochannel) _ t3),
      none x.timers.pres (and_right (not x.timers.nochannel) _ t3),
      eqb-true x.value 0 (and_left (eqb x.value 0) _ n),
      eqb-true x.reference.first 0 (and_left (eqb x.reference.first 0) _ z),
      eqb-true x.reference.second 0 (and_left (eqb x.reference.second 0) _ z1),
      eqb-true x.reference.third 0 (and_left (eqb x.reference.third 0) _ z2),
      eqb-true x.reference.fourth 0 (and_right (eqb x.reference.third 0) _ z2),
      nothing_remembered x.remembered (none (is_something x.remembered) m),
      silent_talk x.talk k,
    )
