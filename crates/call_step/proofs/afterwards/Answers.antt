-- `afterwards` meets its contract: entering U0 clears, and else each part is the definition's.
use mathlib.Core.Path.{sym, ◌∙◌}
use Rattle.codes.specs.declared.state.State.TheVariants.{U0}
use Rattle.context.proofs.States.{same_asked}
use Rattle.call.specs.Step.{afterwards}
use Rattle.call_step.proofs.afterwards.Goals as goal

pub returns-then-eq : goal.returns-then-eq
unfolding afterwards
returns-then-eq c = rw (c.cleared.ensures, sym (same_asked c.args.taken.next U0) ∙ sym c.eq.ensures ∙ c.if-eq.true)

pub returns : goal.returns
unfolding afterwards
returns c =
    rw (
      c.talk_after-talk.ensures,
      c.remembered_after-remembered.ensures,
      c.reference_after-reference.ensures,
      c.value_after-value.ensures,
      c.timers_after-timers.ensures,
      c.entered-parameters.ensures,
      sym (same_asked c.args.taken.next U0) ∙ sym c.eq.ensures ∙ c.if-eq.false,
    )
