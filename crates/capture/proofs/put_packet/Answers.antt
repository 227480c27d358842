-- `put_packet` meets its contract: the three parts are those of the definition.
use mathlib.Core.Path.{ap}
use lib.ListN.{length}
use Rattle.capture.specs.Capture.{packet_of, packet_header, tags_of}
use Rattle.capture.proofs.put_packet.Goals as goal

pub put_three-requires : goal.put_three-requires
unfolding packet_of packet_header tags_of
put_three-requires c = (ap length c.packet_header-header.ensures, ap length c.tags-named.ensures)

pub returns : goal.returns
unfolding packet_of packet_header tags_of
returns c = record {
  value = rw (c.packet_header-header.ensures, c.tags-named.ensures) at c.put_three.ensures.value;
  buffer_after = rw (c.packet_header-header.ensures, c.tags-named.ensures) at c.put_three.ensures.buffer_after;
}
