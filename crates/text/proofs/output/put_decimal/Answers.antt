-- `put_decimal` meets its contract: the digits stand over the start of an array of twenty, and are put from there.
use Prim.Native.Nat.{◌≤◌}
use native.Mathlib.Omega.{arith}
use lib.ListN.{length}
use Rattle.text.specs.Decimal.{digits_of, decimal_of}
use Rattle.text.proofs.Numbers.{digits-length}
use Rattle.text.proofs.Putting.{as_put}
use Rattle.text.proofs.output.put_decimal.Goals as goal

pub slice_bounds-put-end : goal.slice_bounds-put-end
unfolding decimal_of
slice_bounds-put-end c = let h : length (digits_of 20 c.args.number) ≤ 20 = digits-length 20 _ in omega (arith, c.fill_decimal-count.ensures.value)

pub returns : goal.returns
unfolding decimal_of
returns c = let both = as_put c.args.buffer.now c.put.new.buffer _ c.fill_decimal-count.new.buffer c.args.output c.put.result (digits_of 20 c.args.number) c.fill_decimal-count.result c.fill_decimal-count.ensures.value (digits-length 20 _) c.fill_decimal-count.ensures.buffer_after (c.put.ensures.value, c.put.ensures.buffer_after) in record { value = both.0; buffer_after = both.1 }
