-- `next_element` meets its contract: each of its four ways is one of the definition's.
use borrow.Author.Tests.{le-leb, lt-leb}
use Prim.Native.Nat.{◌+◌, ◌<◌, ◌≤◌}
use native.Mathlib.Omega.{arith}
use lib.ListN.{length, get_or}
use Rattle.element.specs.Elements.{next_element}
use Rattle.element.proofs.next_element.Goals as goal

pub returns-then-octets-at-ge128 : goal.returns-then-octets-at-ge128
unfolding next_element
returns-then-octets-at-ge128 c = simp (le-leb _ _ c.if-octets-at-ge128.true)

pub returns-in_err-count : goal.returns-in_err-count
unfolding next_element
returns-in_err-count c =
    let a = c.args in
    let past : length a.octets.now < a.at + 2 + get_or a.octets.now (a.at + 1) 0 = omega (arith, c.in_err-count.ensures.lookup) in
    simp (c.from_residual.ensures, lt-leb _ _ c.if-octets-at-ge128.false, lt-leb _ _ past)

pub returns-then-octets-at : goal.returns-then-octets-at
unfolding next_element
returns-then-octets-at c =
    let a = c.args in
    let past : length a.octets.now < a.at + 2 + get_or a.octets.now (a.at + 1) 0 = omega (arith, c.in_ok-count.ensures.lookup.3.1 0) in
    simp (lt-leb _ _ c.if-octets-at-ge128.false, lt-leb _ _ past)

pub returns : goal.returns
unfolding next_element
returns c =
    let a = c.args in
    let number = c.in_ok-count.ensures.lookup.3.1 0 in
    let there : a.at + 2 + get_or a.octets.now (a.at + 1) 0 ≤ length a.octets.now = omega (arith, number, c.in_ok-count.ensures.lookup.3.0) in
    simp (lt-leb _ _ c.if-octets-at-ge128.false, le-leb _ _ there, number)
