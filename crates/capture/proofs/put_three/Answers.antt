-- `put_three` meets its contract: no room for all, or all put.
use borrow.Author.Rules.{rules}
use native.Mathlib.Omega.{arith}
use Rattle.capture.proofs.Packets.{three-fit-not, three_put}
use Rattle.capture.proofs.put_three.Goals as goal

pub returns-then-buffer-at : goal.returns-then-buffer-at
returns-then-buffer-at c = let both = three-fit-not c.args.buffer.now c.args.output c.args.first.now c.args.second.now c.args.third.now (search rules) (search rules) (omega arith) in record { value = both.0; buffer_after = both.1 }

pub returns-then-buffer-at-lt44 : goal.returns-then-buffer-at-lt44
returns-then-buffer-at-lt44 c = let both = three-fit-not c.args.buffer.now c.args.output c.args.first.now c.args.second.now c.args.third.now (search rules) (search rules) (omega arith) in record { value = both.0; buffer_after = both.1 }

pub returns-then-buffer-at-2 : goal.returns-then-buffer-at-2
returns-then-buffer-at-2 c = let both = three-fit-not c.args.buffer.now c.args.output c.args.first.now c.args.second.now c.args.third.now (search rules) (search rules) (omega arith) in record { value = both.0; buffer_after = both.1 }

pub returns : goal.returns
returns c = let both = three_put c.args.buffer.now _ _ _ c.args.output c.args.first.now c.args.second.now c.args.third.now (search rules) (search rules) (omega arith) c.copy_to.ensures c.copy_to-2.ensures c.copy_to-3.ensures in record { value = both.0; buffer_after = both.1 }
