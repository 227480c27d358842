-- The proof of the cycle of calls {fill_decimal}: the measure is the places that are left.
use Prim.Native.Nat.{◌-◌, ◌/◌, ◌≤◌}
use native.Mathlib.Omega.{arith}
use lib.ListN.{length}
use Rattle.text.specs.Decimal.{digits_of}
use Rattle.text.proofs.Numbers.{digits-length, digits-none, digits-one, digits_more}
use Rattle.text.proofs.decimal.+fill_decimal.Goals as goal

pub returns-then-places-eq0 : goal.returns-then-places-eq0
returns-then-places-eq0 t c = let both = digits-none _ _ _ c.if-places-eq0.true in record { value = both.0; buffer_after = both.1 }

pub returns-then-number-lt10 : goal.returns-then-number-lt10
returns-then-number-lt10 t c = let both = digits-one _ _ _ c.if-places-eq0.false c.if-number-lt10.true in record { value = both.0; buffer_after = both.1 }

pub fill_decimal-place-requires : goal.fill_decimal-place-requires
fill_decimal-place-requires t c = (omega arith, omega arith)

pub overflow_cast-buffer-2 : goal.overflow_cast-buffer-2
overflow_cast-buffer-2 t c = omega arith

pub overflow_add-buffer-2 : goal.overflow_add-buffer-2
overflow_add-buffer-2 t c = omega arith

pub bounds-buffer-place : goal.bounds-buffer-place
bounds-buffer-place t c =
    let a = c.args in
    let h : length (digits_of (a.places - 1) (a.number / 10)) ≤ a.places - 1 = digits-length _ _ in
    omega (arith, c.fill_decimal-place.ensures.value)

pub overflow_add-result : goal.overflow_add-result
overflow_add-result t c =
    let a = c.args in
    let h : length (digits_of (a.places - 1) (a.number / 10)) ≤ a.places - 1 = digits-length _ _ in
    omega (arith, c.fill_decimal-place.ensures.value)

pub returns : goal.returns
returns t c = let both = digits_more _ _ _ _ _ c.if-places-eq0.false c.if-number-lt10.false (c.fill_decimal-place.ensures.value, c.fill_decimal-place.ensures.buffer_after) in record { value = both.0; buffer_after = both.1 }
