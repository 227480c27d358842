-- `counted_at` meets its contract: each of its four ways is one of the definition's.
use mathlib.Core.Path.{◌≡◌, sym}
use mathlib.Core.Bool.{true, false}
use native.Mathlib.Omega.{arith}
use lib.ListN.{get_or}
use Rattle.element.specs.Elements.{within}
use Rattle.element.proofs.Counting.{counted_none, counted-wrong, counted-cut, counted-there}
use Rattle.element.proofs.counted_at.Goals as goal

pub returns-in_default : goal.returns-in_default
returns-in_default c = counted_none c.args.octets.now _ _ _ (omega (arith, c.in_default.ensures.lookup))

pub returns-then-not-is_within : goal.returns-then-not-is_within
returns-then-not-is_within c =
    let a = c.args in
    let there = c.in-Some.ensures.lookup.3 in
    let wrong : within (get_or a.octets.now a.at 0) a.low a.high ≡ false = rw (← there.1 0) (sym c.if-not-is_within.ensures) in
    counted-wrong a.octets.now _ _ _ there.0 wrong

pub returns-then-octets-at : goal.returns-then-octets-at
returns-then-octets-at c =
    let a = c.args in
    let there = c.in-Some.ensures.lookup.3 in
    let good : within (get_or a.octets.now a.at 0) a.low a.high ≡ true = rw (← there.1 0) (sym c.if-not-is_within.ensures) in
    counted-cut a.octets.now _ _ _ there.0 good (omega (arith, there.1 0))

pub returns : goal.returns
returns c =
    let a = c.args in
    let there = c.in-Some.ensures.lookup.3 in
    let good : within (get_or a.octets.now a.at 0) a.low a.high ≡ true = rw (← there.1 0) (sym c.if-not-is_within.ensures) in
    rw (there.1 0) (counted-there a.octets.now _ _ _ there.0 good (omega (arith, there.1 0)))
