-- `no_channel` meets its contract.
use Rattle.group_rows.proofs.no_channel.Goals as goal

pub returns-then-runs : goal.returns-then-runs
returns-then-runs c = rw c.if-runs.true

pub returns : goal.returns
returns c = rw c.if-runs.false
