-- `adopted` meets its contract, where a value is awaited and a message gives it, and elsewhere.
use Rattle.call.specs.Talk.{adopted}
use Rattle.talk.proofs.adopted.Goals as goal

pub returns-then-talk-seen : goal.returns-then-talk-seen
unfolding adopted
returns-then-talk-seen c = rw (c.with_value.ensures, c.if-talk-seen.true)

pub returns : goal.returns
unfolding adopted
returns c = rw c.if-talk-seen.false
