-- Where no two effects of a row are of a kind, none hides another: each of them is in what is taken.
use mathlib.Core.Path.{◌≡◌, refl, sym}
use mathlib.Core.List.{List, [], ◌∷◌}
use mathlib.Core.Bool.{Bool, true, false, cond, not, ◌||◌}
use lib.Dec.{eqb}
use borrow.Author.Tests.{not-true}
use Rattle.octets.proofs.Choice.{never}
use Rattle.timer.specs.declared.Timers.{Timers}
use Rattle.std.specs.Prelude.{Some, None}
use Rattle.timer.specs.Timers.{is_on}
use Rattle.timer.proofs.Whole.{and_left, and_right}
use Rattle.transitions.specs.declared.Stores.TheVariants.{ValueAndReference, ItsReference, ItsReferenceAndOriginator}
use Rattle.transitions.specs.declared.Taken.{Taken}
use Rattle.transitions.specs.Table.{
  Effect,
  send,
  stop,
  set,
  set_unless_running,
  store_value-and-reference,
  store_its_reference,
  store_its_reference-and_originator,
  mind,
  note,
  adding,
  adding_all,
}
use Rattle.transitions.proofs.Sound.{kind_of, has_kind, single}

module _ (t : Timers) where
  -- An effect is in what is taken.
  abbrev pub Shows : Taken → Effect → Type 0
  Shows d (send m) = d.sends ≡ m
  Shows d (stop k) = d.stops ≡ k
  Shows d (set k) = d.sets ≡ k
  Shows d (set_unless_running k) = d.sets ≡ cond (is_on k t) None (Some k)
  Shows d store_value-and-reference = d.stores ≡ ValueAndReference
  Shows d store_its_reference = d.stores ≡ ItsReference
  Shows d store_its_reference-and_originator = d.stores ≡ ItsReferenceAndOriginator
  Shows d (mind m) = d.memory ≡ m
  Shows d (note n) = d.note ≡ n

  abbrev pub ShowsAll : Taken → List Effect → Type 0
  ShowsAll d [] = Unit {0}
  ShowsAll d (e ∷ more) = Shows d e × ShowsAll d more

  here : (e : Effect) (d : Taken) → Shows (adding t e d) e
  here (send m) d = refl
  here (stop m) d = refl
  here (set m) d = refl
  here (set_unless_running m) d = refl
  here store_value-and-reference d = refl
  here store_its_reference d = refl
  here store_its_reference-and_originator d = refl
  here (mind m) d = refl
  here (note m) d = refl

  -- One of another kind leaves it there.
  beside : (f e : Effect) (d : Taken) → eqb (kind_of f) (kind_of e) ≡ false → Shows d e → Shows (adding t f d) e
  beside (send l) (send m) d n c = never (sym n)
  beside (send l) (stop m) d n c = c
  beside (send l) (set m) d n c = c
  beside (send l) (set_unless_running m) d n c = c
  beside (send l) store_value-and-reference d n c = c
  beside (send l) store_its_reference d n c = c
  beside (send l) store_its_reference-and_originator d n c = c
  beside (send l) (mind m) d n c = c
  beside (send l) (note m) d n c = c
  beside (stop l) (send m) d n c = c
  beside (stop l) (stop m) d n c = never (sym n)
  beside (stop l) (set m) d n c = c
  beside (stop l) (set_unless_running m) d n c = c
  beside (stop l) store_value-and-reference d n c = c
  beside (stop l) store_its_reference d n c = c
  beside (stop l) store_its_reference-and_originator d n c = c
  beside (stop l) (mind m) d n c = c
  beside (stop l) (note m) d n c = c
  beside (set l) (send m) d n c = c
  beside (set l) (stop m) d n c = c
  beside (set l) (set m) d n c = never (sym n)
  beside (set l) (set_unless_running m) d n c = never (sym n)
  beside (set l) store_value-and-reference d n c = c
  beside (set l) store_its_reference d n c = c
  beside (set l) store_its_reference-and_originator d n c = c
  beside (set l) (mind m) d n c = c
  beside (set l) (note m) d n c = c
  beside (set_unless_running l) (send m) d n c = c
  beside (set_unless_running l) (stop m) d n c = c
  beside (set_unless_running l) (set m) d n c = never (sym n)
  beside (set_unless_running l) (set_unless_running m) d n c = never (sym n)
  beside (set_unless_running l) store_value-and-reference d n c = c
  beside (set_unless_running l) store_its_reference d n c = c
  beside (set_unless_running l) store_its_reference-and_originator d n c = c
  beside (set_unless_running l) (mind m) d n c = c
  beside (set_unless_running l) (note m) d n c = c
  beside store_value-and-reference (send m) d n c = c
  beside store_value-and-reference (stop m) d n c = c
  beside store_value-and-reference (set m) d n c = c
  beside store_value-and-reference (set_unless_running m) d n c = c
  beside store_value-and-reference store_value-and-reference d n c = never (sym n)
  beside store_value-and-reference store_its_reference d n c = never (sym n)
  beside store_value-and-reference store_its_reference-and_originator d n c = never (sym n)
  beside store_value-and-reference (mind m) d n c = c
  beside store_value-and-reference (note m) d n c = c
  beside store_its_reference (send m) d n c = c
  beside store_its_reference (stop m) d n c = c
  beside store_its_reference (set m) d n c = c
  beside store_its_reference (set_unless_running m) d n c = c
  beside store_its_reference store_value-and-reference d n c = never (sym n)
  beside store_its_reference store_its_reference d n c = never (sym n)
  beside store_its_reference store_its_reference-and_originator d n c = never (sym n)
  beside store_its_reference (mind m) d n c = c
  beside store_its_reference (note m) d n c = c
  beside store_its_reference-and_originator (send m) d n c = c
  beside store_its_reference-and_originator (stop m) d n c = c
  beside store_its_reference-and_originator (set m) d n c = c
  beside store_its_reference-and_originator (set_unless_running m) d n c = c
  beside store_its_reference-and_originator store_value-and-reference d n c = never (sym n)
  beside store_its_reference-and_originator store_its_reference d n c = never (sym n)
  beside store_its_reference-and_originator store_its_reference-and_originator d n c = never (sym n)
  beside store_its_reference-and_originator (mind m) d n c = c
  beside store_its_reference-and_originator (note m) d n c = c
  beside (mind l) (send m) d n c = c
  beside (mind l) (stop m) d n c = c
  beside (mind l) (set m) d n c = c
  beside (mind l) (set_unless_running m) d n c = c
  beside (mind l) store_value-and-reference d n c = c
  beside (mind l) store_its_reference d n c = c
  beside (mind l) store_its_reference-and_originator d n c = c
  beside (mind l) (mind m) d n c = never (sym n)
  beside (mind l) (note m) d n c = c
  beside (note l) (send m) d n c = c
  beside (note l) (stop m) d n c = c
  beside (note l) (set m) d n c = c
  beside (note l) (set_unless_running m) d n c = c
  beside (note l) store_value-and-reference d n c = c
  beside (note l) store_its_reference d n c = c
  beside (note l) store_its_reference-and_originator d n c = c
  beside (note l) (mind m) d n c = c
  beside (note l) (note m) d n c = never (sym n)

  first-false : (a b : Bool) → (a || b) ≡ false → a ≡ false
  first-false true b e = e
  first-false false b e = refl

  second-false : (a b : Bool) → (a || b) ≡ false → b ≡ false
  second-false true b e = never (sym e)
  second-false false b e = e

  beside-all : (f : Effect) (effects : List Effect) (d : Taken) → has_kind (kind_of f) effects ≡ false → ShowsAll d effects → ShowsAll (adding t f d) effects
  beside-all f [] d n c = tt
  beside-all f (e ∷ more) d n c =
      (beside f e d (first-false (eqb (kind_of f) (kind_of e)) _ n) c.0, beside-all f more d (second-false (eqb (kind_of f) (kind_of e)) _ n) c.1)

  pub all_shown : (effects : List Effect) (d : Taken) → single effects ≡ true → ShowsAll (adding_all t effects d) effects
  all_shown [] d s = tt
  all_shown (e ∷ more) d s = (
    here e (adding_all t more d),
    beside-all e more (adding_all t more d) (not-true _ (and_left (not (has_kind (kind_of e) more)) _ s))
        (all_shown more d (and_right (not (has_kind (kind_of e) more)) _ s)),
  )
