-- `digit_of` meets its contract: below ten, and from ten on.
use borrow.Author.Tests.{lt-ltb, le-ltb}
use Rattle.text.specs.Hex.{digit_of}
use Rattle.text.proofs.hex.digit_of.Goals as goal

pub returns-then-half-lt10 : goal.returns-then-half-lt10
unfolding digit_of
returns-then-half-lt10 c = simp (lt-ltb _ _ c.if-half-lt10.true)

pub returns : goal.returns
unfolding digit_of
returns c = simp (le-ltb _ _ c.if-half-lt10.false)
