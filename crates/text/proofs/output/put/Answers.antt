-- `put` meets its contract: no room, or put.
use native.Mathlib.Omega.{arith}
use Rattle.text.proofs.Putting.{no_room, is_copied}
use Rattle.text.proofs.output.put.Goals as goal

pub returns-then-buffer-at : goal.returns-then-buffer-at
returns-then-buffer-at c = let both = no_room c.args.buffer.now c.args.output c.args.text.now (omega arith) in record { value = both.0; buffer_after = both.1 }

pub returns-then-buffer-at-2 : goal.returns-then-buffer-at-2
returns-then-buffer-at-2 c = let both = no_room c.args.buffer.now c.args.output c.args.text.now (omega arith) in record { value = both.0; buffer_after = both.1 }

pub returns : goal.returns
returns c = let both = is_copied c.args.buffer.now _ c.args.output c.args.text.now (omega arith) c.copy_to.ensures in record { value = both.0; buffer_after = both.1 }
