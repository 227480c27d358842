-- Any two outcomes that a public contract allows coincide: each contract gives the result, and every byte that was lent, by an equation.
use Prim.Native.Nat.{ℕ}
use mathlib.Core.Path.{◌≡◌}
use mathlib.Core.Bool.{Bool}
use mathlib.Core.List.{List}
use Rattle.octets.proofs.Coincide.{coincide}
use Rattle.text.specs.declared.output.Output.{Output}
use Rattle.text.specs.Output.{behind, put_leaves}
use Rattle.capture.specs.Capture.{capture_header, start_packet, packet_of}

-- put_header, its answer and the buffer
pub put_header_coincides : (b : List ℕ) (o : Output) (x y : Output) → x ≡ behind b o capture_header → y ≡ behind b o capture_header → x ≡ y
put_header_coincides b o x y = coincide (behind b o capture_header) x y

pub put_header_leaves_coincide : (b : List ℕ) (o : Output) (x y : List ℕ) → x ≡ put_leaves b o capture_header → y ≡ put_leaves b o capture_header
    → x ≡ y
put_header_leaves_coincide b o x y = coincide (put_leaves b o capture_header) x y

-- put_start, its answer and the buffer
pub put_start_coincides : (b : List ℕ) (o : Output) (x y : Output) → x ≡ behind b o start_packet → y ≡ behind b o start_packet → x ≡ y
put_start_coincides b o x y = coincide (behind b o start_packet) x y

pub put_start_leaves_coincide : (b : List ℕ) (o : Output) (x y : List ℕ) → x ≡ put_leaves b o start_packet → y ≡ put_leaves b o start_packet
    → x ≡ y
put_start_leaves_coincide b o x y = coincide (put_leaves b o start_packet) x y

-- put_packet, its answer and the buffer
pub put_packet_coincides : (b : List ℕ) (o : Output) (time : ℕ) (sent : Bool) (m : List ℕ) (x y : Output)
    → x ≡ behind b o (packet_of time sent m) → y ≡ behind b o (packet_of time sent m) → x ≡ y
put_packet_coincides b o time sent m x y = coincide (behind b o (packet_of time sent m)) x y

pub put_packet_leaves_coincide : (b : List ℕ) (o : Output) (time : ℕ) (sent : Bool) (m x y : List ℕ)
    → x ≡ put_leaves b o (packet_of time sent m) → y ≡ put_leaves b o (packet_of time sent m) → x ≡ y
put_packet_leaves_coincide b o time sent m x y = coincide (put_leaves b o (packet_of time sent m)) x y
