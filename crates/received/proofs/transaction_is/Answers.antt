-- `transaction_is` meets its contract, flag by flag.
use Rattle.received.specs.Received.{transaction_is}
use Rattle.received.proofs.transaction_is.Goals as goal

pub returns-then-flag : goal.returns-then-flag
unfolding transaction_is
returns-then-flag c = rw c.if-flag.true

pub returns : goal.returns
unfolding transaction_is
returns c = rw c.if-flag.false
