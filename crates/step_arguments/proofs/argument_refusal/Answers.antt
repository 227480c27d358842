-- `argument_refusal` meets its contract, test by test.
use borrow.Author.Tests.{lt-ltb, le-ltb}
use Rattle.step_arguments.specs.Arguments.{argument_refusal}
use Rattle.step_arguments.proofs.argument_refusal.Goals as goal

pub returns-then-room-lt255 : goal.returns-then-room-lt255
unfolding argument_refusal
returns-then-room-lt255 c = rw (lt-ltb _ _ c.if-room-lt255.true)

pub returns-then-number-octets : goal.returns-then-number-octets
unfolding argument_refusal
returns-then-number-octets c = rw (le-ltb _ _ c.if-room-lt255.false, c.if-number-octets.true)

pub returns-then-is_out_of_range : goal.returns-then-is_out_of_range
unfolding argument_refusal
returns-then-is_out_of_range c = rw (le-ltb _ _ c.if-room-lt255.false, c.if-number-octets.false, ← c.is_out_of_range.ensures, c.if-is_out_of_range.true)

pub returns : goal.returns
unfolding argument_refusal
returns c = rw (le-ltb _ _ c.if-room-lt255.false, c.if-number-octets.false, ← c.is_out_of_range.ensures, c.if-is_out_of_range.false)
