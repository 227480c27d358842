-- `fitness_refusal` meets its contract.
use Rattle.radio.specs.Step.{fitness_refusal}
use Rattle.radio.proofs.fitness_refusal.Goals as goal

pub returns-then-not-is_fit : goal.returns-then-not-is_fit
unfolding fitness_refusal
returns-then-not-is_fit c = rw (← c.is_fit.ensures, c.if-not-is_fit.true)

pub returns : goal.returns
unfolding fitness_refusal
returns c = rw (← c.is_fit.ensures, c.if-not-is_fit.false)
