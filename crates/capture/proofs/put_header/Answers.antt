-- `put_header` meets its contract: it puts the octets of the definition.
use Rattle.capture.specs.Capture.{capture_header}
use Rattle.capture.proofs.put_header.Goals as goal

pub returns : goal.returns
unfolding capture_header
returns c = record { value = c.put.ensures.value; buffer_after = c.put.ensures.buffer_after }
