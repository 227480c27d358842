-- `is_fit` meets its contract: each test is the definition's, in its order.
use borrow.Author.Tests.{le-leb, lt-leb}
use mathlib.Core.Path.{◌≡◌, sym, ◌∙◌}
use mathlib.Core.Bool.{true, false}
use lib.Dec.{leb}
use Rattle.codes.specs.declared.state.State.TheVariants.{U0}
use Rattle.context.specs.States.{same}
use Rattle.context.proofs.States.{other_state}
use Rattle.fitness.specs.Tables.{state_fits}
use Rattle.fitness.proofs.Consistent.{state-by_two}
use Rattle.fitness.proofs.Tested.{inconsistent, value_over, in_u0, elsewhere}
use Rattle.fitness.proofs.is_fit.Goals as goal

pub returns-then-not-state_fits : goal.returns-then-not-state_fits
returns-then-not-state_fits c =
    let wrong-parameters : state_fits (c.args.table) (c.args.context).state (c.args.context).parameters ≡ false =
    state-by_two _ (c.args.context).state (c.args.context).parameters ∙ (sym c.state_fits.ensures ∙ c.if-not-state_fits.true) in
    inconsistent _ (c.args.context) (wrong-parameters)

pub returns-then-context-gt6 : goal.returns-then-context-gt6
returns-then-context-gt6 c =
    let right-parameters : state_fits (c.args.table) (c.args.context).state (c.args.context).parameters ≡ true =
    state-by_two _ (c.args.context).state (c.args.context).parameters ∙ (sym c.state_fits.ensures ∙ c.if-not-state_fits.false) in
    value_over _ (c.args.context) (right-parameters) (lt-leb _ _ c.if-context-gt6.true)

pub returns-in-U0 : goal.returns-in-U0
returns-in-U0 c =
    let right-parameters : state_fits (c.args.table) (c.args.context).state (c.args.context).parameters ≡ true =
    state-by_two _ (c.args.context).state (c.args.context).parameters ∙ (sym c.state_fits.ensures ∙ c.if-not-state_fits.false) in
    let small-value : leb (c.args.context).value 6 ≡ true =
    le-leb _ _ c.if-context-gt6.false in
    let is-u0 : same (c.args.context).state U0 ≡ true = rw c.in-U0.is in
    in_u0 _ (c.args.context) (right-parameters) (small-value) _ c.rest_fits.ensures (is-u0) _ c.is_cleared.ensures

pub returns-in_default : goal.returns-in_default
returns-in_default c =
    let right-parameters : state_fits (c.args.table) (c.args.context).state (c.args.context).parameters ≡ true =
    state-by_two _ (c.args.context).state (c.args.context).parameters ∙ (sym c.state_fits.ensures ∙ c.if-not-state_fits.false) in
    let small-value : leb (c.args.context).value 6 ≡ true =
    le-leb _ _ c.if-context-gt6.false in
    let is-not-u0 : same (c.args.context).state U0 ≡ false = other_state _ _ c.in_default.not-U0 in
    elsewhere _ (c.args.context) (right-parameters) (small-value) _ c.rest_fits-in_default.ensures (is-not-u0)
