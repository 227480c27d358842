-- `decide` meets its contract: a message by its type, any other event by its number.
use Rattle.transitions.proofs.InState.{no_message}
use Rattle.event_rows.proofs.decide.Goals as goal

pub returns-then-number-eq-RECEIVED : goal.returns-then-number-eq-RECEIVED
returns-then-number-eq-RECEIVED c = rw c.if-number-eq-RECEIVED.true c.decide.ensures

pub returns : goal.returns
returns c = no_message _ _ _ _ _ c.if-number-eq-RECEIVED.false c.occurred.ensures
