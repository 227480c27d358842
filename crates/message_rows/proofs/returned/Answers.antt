-- `returned` meets its contract.
use Rattle.message_rows.proofs.returned.Goals as goal

pub returns : goal.returns
returns c = rw c.returning-next.ensures
