-- `not_written_lem` meets its contract: the test of the buffer alone.
use borrow.Author.Tests.{lt-ltb, le-ltb}
use Rattle.message_numbers.specs.Outcomes.{wrote_numbers, not_written}
use Rattle.message_numbers.proofs.not_written.Goals as goal

pub returns-then-room-lt255 : goal.returns-then-room-lt255
unfolding wrote_numbers not_written
returns-then-room-lt255 c = simp (lt-ltb _ _ c.if-room-lt255.true)

pub returns : goal.returns
unfolding wrote_numbers not_written
returns c = simp (le-ltb _ _ c.if-room-lt255.false)
