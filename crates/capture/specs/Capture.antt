-- A capture file of the classic pcap form, and its packets as exported PDUs (link type 252), which Wireshark knows by their tags.
use Rattle.std.specs.Prelude.{ℕ, ◌+◌, ◌*◌, ◌/◌, ◌%◌, List, [], ◌∷◌, ◌++◌, Bool, cond, length}
use Rattle.octets.specs.Little.{little}

-- With which a file starts.
unfoldable pub capture_header : List ℕ
capture_header =
    0xD4 ∷ 0xC3 ∷ 0xB2 ∷ 0xA1 ∷  -- A1B2C3D4: numbers are written low octet first, times in microseconds
    2 ∷ 0 ∷ 4 ∷ 0 ∷  -- version 2.4 of the form
    0 ∷ 0 ∷ 0 ∷ 0 ∷  -- time zone
    0 ∷ 0 ∷ 0 ∷ 0 ∷  -- accuracy, which nobody tells
    0xFF ∷ 0xFF ∷ 0 ∷ 0 ∷  -- no packet has over 65,535 octets
    252 ∷ 0 ∷ 0 ∷ 0 ∷  -- link type: exported PDU
    []

-- The header of a packet of `count` octets, at a time in milliseconds: seconds, microseconds, octets in the file, octets there were.
unfoldable pub packet_header : ℕ → ℕ → List ℕ
packet_header time count = little (time / 1000) ++ (little (time % 1000 * 1000) ++ (little count ++ little count))

-- Each tag is its number, the count of its octets (both high octet first), and these. 12 is the dissector, "gsm_a_dtap" filled up to 12 octets;
-- 35 is the direction, 0 sent and 1 received; 0 ends the tags.
unfoldable pub tags_of : Bool → List ℕ
tags_of sent =
    0 ∷ 12 ∷ 0 ∷ 12 ∷ 0x67 ∷ 0x73 ∷ 0x6D ∷ 0x5F ∷ 0x61 ∷ 0x5F ∷ 0x64 ∷ 0x74 ∷ 0x61 ∷ 0x70 ∷ 0 ∷ 0 ∷
    0 ∷ 35 ∷ 0 ∷ 4 ∷ 0 ∷ 0 ∷ 0 ∷ cond sent 0 1 ∷
    0 ∷ 0 ∷ 0 ∷ 0 ∷
    []

-- A message as a packet.
unfoldable pub packet_of : ℕ → Bool → List ℕ → List ℕ
packet_of time sent message = packet_header time (length message + 28) ++ (tags_of sent ++ message)

-- The packet that stands at time 0, before all messages, so that a reader counts the times from the log's start. It has no direction, and its dissector is that of
-- plain text, "data-text-lines".
unfoldable pub start_packet : List ℕ
start_packet =
    0 ∷ 0 ∷ 0 ∷ 0 ∷ 0 ∷ 0 ∷ 0 ∷ 0 ∷  -- time 0
    40 ∷ 0 ∷ 0 ∷ 0 ∷ 40 ∷ 0 ∷ 0 ∷ 0 ∷  -- octets in the file, octets there were
    0 ∷ 12 ∷ 0 ∷ 16 ∷ 0x64 ∷ 0x61 ∷ 0x74 ∷ 0x61 ∷ 0x2D ∷ 0x74 ∷ 0x65 ∷ 0x78 ∷ 0x74 ∷ 0x2D ∷ 0x6C ∷ 0x69 ∷ 0x6E ∷ 0x65 ∷ 0x73 ∷ 0 ∷
    0 ∷ 0 ∷ 0 ∷ 0 ∷
    0x73 ∷ 0x74 ∷ 0x61 ∷ 0x72 ∷ 0x74 ∷ 0x20 ∷ 0x6F ∷ 0x66 ∷ 0x20 ∷ 0x74 ∷ 0x68 ∷ 0x65 ∷ 0x20 ∷ 0x6C ∷ 0x6F ∷ 0x67 ∷  -- "start of the log"
    []
