-- `awaited_is` meets its contract.
use Rattle.received.specs.Received.{awaited_is}
use Rattle.received.proofs.awaited_is.Goals as goal

pub returns-then-flag : goal.returns-then-flag
unfolding awaited_is
returns-then-flag c = rw c.if-flag.true

pub returns : goal.returns
unfolding awaited_is
returns c = rw c.if-flag.false
