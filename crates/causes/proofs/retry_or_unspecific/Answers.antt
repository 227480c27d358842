-- `retry_or_unspecific` meets its contract: the two tests are the definition's, one at a time.
use borrow.Author.Tests.{le-leb, lt-leb}
use mathlib.Core.Bool.{and-false}
use Rattle.causes.specs.Causes.{retry_or_unspecific}
use Rattle.causes.proofs.retry_or_unspecific.Goals as goal

pub returns-then-number-lt-RETRY_FIRST : goal.returns-then-number-lt-RETRY_FIRST
unfolding retry_or_unspecific
returns-then-number-lt-RETRY_FIRST c = simp (lt-leb _ _ c.if-number-lt-RETRY_FIRST.true)

pub returns-then-number-gt-RETRY_LAST : goal.returns-then-number-gt-RETRY_LAST
unfolding retry_or_unspecific
returns-then-number-gt-RETRY_LAST c = simp (lt-leb _ _ c.if-number-gt-RETRY_LAST.true, and-false)

pub returns : goal.returns
unfolding retry_or_unspecific
returns c = simp (le-leb _ _ c.if-number-lt-RETRY_FIRST.false, le-leb _ _ c.if-number-gt-RETRY_LAST.false)
