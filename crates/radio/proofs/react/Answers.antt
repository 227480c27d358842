-- `react` meets its contract: what is due, done.
use Rattle.radio.specs.Step.{reacted_to}
use Rattle.radio.proofs.react.Goals as goal

pub returns : goal.returns
unfolding reacted_to
returns c = rw (← c.due_to-due.ensures) c.settle.ensures
