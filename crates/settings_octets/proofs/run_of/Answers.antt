-- `run_of` meets its contract: a length over 8, or one of 8 at most.
use native.Mathlib.Omega.{arith}
use borrow.Author.Tests.{lt-ltb, le-ltb}
use Rattle.settings_octets.specs.Octets.{run_of}
use Rattle.settings_octets.proofs.run_of.Goals as goal

pub returns-then-count-gt8-clause-value : goal.returns-then-count-gt8-clause-value
unfolding run_of
returns-then-count-gt8-clause-value c = rw (lt-ltb _ _ c.if-count-gt8.true)

pub returns-then-count-gt8-clause-count_bound : goal.returns-then-count-gt8-clause-count_bound
unfolding run_of
returns-then-count-gt8-clause-count_bound c = omega arith

pub returns-clause-value : goal.returns-clause-value
unfolding run_of
returns-clause-value c = rw (le-ltb _ _ c.if-count-gt8.false)

pub returns-clause-count_bound : goal.returns-clause-count_bound
unfolding run_of
returns-clause-count_bound c = omega arith
