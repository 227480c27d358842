-- `refusal` meets its contract: fitness, then the arguments.
use borrow.Author.Tests.{ne_eqb}
use Rattle.radio.specs.Step.{refusal_of}
use Rattle.radio.proofs.refusal.Goals as goal

pub returns-then-unfit-ne0 : goal.returns-then-unfit-ne0
unfolding refusal_of
returns-then-unfit-ne0 c = rw (← c.fitness_refusal-unfit.ensures, ne_eqb _ _ c.if-unfit-ne0.true)

pub returns : goal.returns
unfolding refusal_of
returns c = rw (← c.fitness_refusal-unfit.ensures, c.if-unfit-ne0.false, ← c.has_event-known.ensures) c.argument_refusal-unsuited.ensures
