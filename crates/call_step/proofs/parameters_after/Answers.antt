-- `parameters_after` meets its contract: the states are the same, or not.
use mathlib.Core.Path.{sym, ◌∙◌}
use Rattle.context.proofs.States.{same_asked}
use Rattle.call.specs.Step.{parameters_after}
use Rattle.call_step.proofs.parameters_after.Goals as goal

pub returns-then-eq : goal.returns-then-eq
unfolding parameters_after
returns-then-eq c = rw (sym (same_asked c.args.from c.args.next) ∙ sym c.eq.ensures ∙ c.if-eq.true)

pub returns : goal.returns
unfolding parameters_after
returns c = rw (c.entering.ensures, sym (same_asked c.args.from c.args.next) ∙ sym c.eq.ensures ∙ c.if-eq.false)
