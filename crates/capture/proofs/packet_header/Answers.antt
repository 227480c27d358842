-- `packet_header` meets its contract: each of its octets is one of the four of a number.
use Rattle.capture.specs.Capture.{packet_header}
use Rattle.capture.proofs.packet_header.Goals as goal

pub returns : goal.returns
unfolding packet_header
returns c = rw (c.little-seconds.ensures, c.little-micros.ensures, c.little-octets.ensures)
