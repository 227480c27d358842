-- `put_hex` meets its contract: no room, or put. Octets have twice as many digits.
use Prim.Native.Nat.{◌*◌}
use mathlib.Core.Path.{◌≡◌, sym}
use native.Mathlib.Omega.{arith}
use lib.ListN.{length}
use Rattle.text.specs.Hex.{hex_of}
use Rattle.text.proofs.Spelling.{hex_length}
use Rattle.text.proofs.Putting.{no_room, is_put}
use Rattle.text.proofs.output.put_hex.Goals as goal

pub returns-then-buffer-at : goal.returns-then-buffer-at
returns-then-buffer-at c = let h : length (hex_of c.args.octets.now) ≡ 2 * length c.args.octets.now = hex_length _ in let both = no_room c.args.buffer.now c.args.output (hex_of c.args.octets.now) (omega arith) in record { value = both.0; buffer_after = both.1 }

pub returns-then-buffer-at-2 : goal.returns-then-buffer-at-2
returns-then-buffer-at-2 c = let h : length (hex_of c.args.octets.now) ≡ 2 * length c.args.octets.now = hex_length _ in let both = no_room c.args.buffer.now c.args.output (hex_of c.args.octets.now) (omega arith) in record { value = both.0; buffer_after = both.1 }

pub returns : goal.returns
returns c = let both = is_put c.args.buffer.now _ c.args.output (hex_of c.args.octets.now) _ (sym (hex_length _)) (omega arith) c.fill_hex.ensures in record { value = both.0; buffer_after = both.1 }
