-- `read_hex` meets its contract: each of its four refusals, and the text that is read.
use Prim.Native.Nat.{◌≤◌}
use mathlib.Core.Path.{◌∙◌}
use native.Mathlib.Omega.{arith}
use lib.ListN.{length}
use Rattle.text.specs.Hex.{digits_before}
use Rattle.text.proofs.Spelling.{refused_odd, refused-digit, refused-room, read_whole}
use Rattle.text.proofs.hex.read_hex.Goals as goal

pub returns-then-text-eq1 : goal.returns-then-text-eq1
returns-then-text-eq1 c = let both = refused_odd c.args.either c.args.text.now c.args.buffer.now c.args.at c.if-text-eq1.true in record { value = both.0; buffer_after = both.1 }

pub returns-then-digits_before-text : goal.returns-then-digits_before-text
returns-then-digits_before-text c = let both = refused-digit c.args.either c.args.text.now c.args.buffer.now c.args.at c.if-text-eq1.false (omega (arith, c.digits_before.ensures.value)) in record { value = both.0; buffer_after = both.1 }

pub returns-in_err-room : goal.returns-in_err-room
returns-in_err-room c =
    let all_digits : let a = c.args in length a.text.now ≤ digits_before a.either a.text.now =
    omega (arith, c.digits_before.ensures.value, c.if-digits_before-text.false) in
    let both = refused-room c.args.either c.args.text.now c.args.buffer.now c.args.at c.if-text-eq1.false (all_digits) (omega (arith, c.in_err-room.ensures)) in
    record { value = c.from_residual.ensures ∙ both.0; buffer_after = both.1 }

pub returns-then-room-count : goal.returns-then-room-count
returns-then-room-count c =
    let all_digits : let a = c.args in length a.text.now ≤ digits_before a.either a.text.now =
    omega (arith, c.digits_before.ensures.value, c.if-digits_before-text.false) in
    let both = refused-room c.args.either c.args.text.now c.args.buffer.now c.args.at c.if-text-eq1.false (all_digits) (omega (arith, c.in_ok-room.ensures)) in record { value = both.0; buffer_after = both.1 }

pub returns : goal.returns
returns c =
    let all_digits : let a = c.args in length a.text.now ≤ digits_before a.either a.text.now =
    omega (arith, c.digits_before.ensures.value, c.if-digits_before-text.false) in
    let both = read_whole c.args.either c.args.text.now c.args.buffer.now _ c.args.at c.if-text-eq1.false (all_digits) (omega (arith, c.in_ok-room.ensures)) c.fill_octets.ensures in record { value = both.0; buffer_after = both.1 }
