-- `put_start` meets its contract: it puts the octets of the definition.
use Rattle.capture.specs.Capture.{start_packet}
use Rattle.capture.proofs.put_start.Goals as goal

pub returns : goal.returns
unfolding start_packet
returns c = record { value = c.put.ensures.value; buffer_after = c.put.ensures.buffer_after }
