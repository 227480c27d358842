-- `copy_count` meets its contract, either way of its test.
use borrow.Author.Tests.{le-leb, lt-leb}
use native.Mathlib.Omega.{arith}
use Rattle.reply.specs.Reply.{copy_count}
use Rattle.reply.proofs.copy_count.Goals as goal

pub returns-then-count-le245-clause-value : goal.returns-then-count-le245-clause-value
unfolding copy_count
returns-then-count-le245-clause-value c = rw (le-leb c.args.count 245 c.if-count-le245.true)

pub returns-then-count-le245-clause-upper_bound : goal.returns-then-count-le245-clause-upper_bound
unfolding copy_count
returns-then-count-le245-clause-upper_bound c = (c.if-count-le245.true, omega arith)

pub returns-clause-value : goal.returns-clause-value
unfolding copy_count
returns-clause-value c = rw (lt-leb c.args.count 245 c.if-count-le245.false)

pub returns-clause-upper_bound : goal.returns-clause-upper_bound
unfolding copy_count
returns-clause-upper_bound c = (omega arith, omega arith)
