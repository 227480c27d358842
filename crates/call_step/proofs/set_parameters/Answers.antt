-- `set_parameters` meets its contract, consistent or not.
use Rattle.call.specs.Step.{parameters_set}
use mathlib.Core.Path.{sym, ◌∙◌}
use Rattle.call_step.proofs.set_parameters.Goals as goal

pub returns-then-is_consistent : goal.returns-then-is_consistent
unfolding parameters_set
returns-then-is_consistent c =
    rw (
      c.took.ensures,
      c.with_parameters-set.ensures,
      ← c.parameters_of-parameters.ensures,
      sym c.is_consistent.ensures ∙ c.if-is_consistent.true,
    )

pub returns : goal.returns
unfolding parameters_set
returns c = rw (c.report.ensures, ← c.parameters_of-parameters.ensures, sym c.is_consistent.ensures ∙ c.if-is_consistent.false)
