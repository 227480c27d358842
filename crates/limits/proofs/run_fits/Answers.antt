-- `run_fits` meets its contract: each of its five ways is one of the definition's.
use native.Mathlib.Omega.{arith}
use Rattle.limits.proofs.Tests.{run_none, run_many, run_past, run-good}
use Rattle.limits.proofs.run_fits.Goals as goal

pub returns-then-count-least : goal.returns-then-count-least
returns-then-count-least c = run_none c.args.source.now c.args.run c.args.least c.args.most c.if-count-least.true

pub returns-then-most-count : goal.returns-then-most-count
returns-then-most-count c = run_many c.args.source.now c.args.run c.args.least c.args.most c.if-count-least.false c.if-most-count.true

pub returns-then-source-start : goal.returns-then-source-start
returns-then-source-start c = run_past c.args.source.now c.args.run c.args.least c.args.most (omega arith)

pub returns-then-source-start-2 : goal.returns-then-source-start-2
returns-then-source-start-2 c = run_past c.args.source.now c.args.run c.args.least c.args.most (omega arith)

pub returns : goal.returns
returns c = run-good c.args.source.now c.args.run c.args.least c.args.most c.if-count-least.false c.if-most-count.false (omega arith)
