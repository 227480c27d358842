-- `step` meets its contract: the event taken apart, the table's decision for it, and what that brings about.
use Rattle.call.specs.Step.{step_by}
use Rattle.call_step.proofs.step.Goals as goal

pub returns : goal.returns
unfolding step_by
returns c = rw (c.carry_out.ensures, c.decide-decision.ensures, c.seen_event-seen.ensures)
