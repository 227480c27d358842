-- `with_state` meets its contract: each octet is the definition's.
use Rattle.context_octets.specs.Octets.{with_state}
use Rattle.context_octets.proofs.with_state.Goals as goal

pub returns : goal.returns
unfolding with_state
returns c = rw (← c.talk_at-talk.ensures, ← c.remembered_at-remembered.ensures, ← c.parameters_at-parameters.ensures, ← c.timers_at-timers.ensures)
