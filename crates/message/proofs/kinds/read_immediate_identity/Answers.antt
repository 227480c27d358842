-- `read_immediate_identity` meets its contract. What is counted lies within the octets.
use mathlib.Core.Path.{◌∙◌}
use native.Mathlib.Omega.{arith}
use Rattle.message.specs.Reading.{immediate_reference_of, immediate_identity_of}
use Rattle.message.proofs.Bodies.{passed, counted-lies, counted-fault, immediate-cut, immediate-done}
use Rattle.message.proofs.kinds.read_immediate_identity.Goals as goal

pub returns-in_err-identity : goal.returns-in_err-identity
unfolding immediate_identity_of
returns-in_err-identity c =
    passed _ _ c.from_residual.ensures.1
    ∙ counted-fault c.args.octets.now 7 1 8 (immediate_reference_of c.args.octets.now) _ c.in_err-identity.ensures

pub overflow_add-end : goal.overflow_add-end
overflow_add-end c = omega (arith, (counted-lies c.args.octets.now 7 1 8 _ c.in_ok-identity.ensures).fits)

pub overflow_sub-octets : goal.overflow_sub-octets
overflow_sub-octets c = omega (arith, (counted-lies c.args.octets.now 7 1 8 _ c.in_ok-identity.ensures).fits)

pub returns-then-octets-end-lt4 : goal.returns-then-octets-end-lt4
returns-then-octets-end-lt4 c = immediate-cut c.args.octets.now _ c.in_ok-identity.ensures (omega arith)

pub returns : goal.returns
returns c =
    immediate-done c.args.octets.now _ c.in_ok-identity.ensures _ _ _ c.classmark_at-classmark.ensures c.reference_at-reference.ensures c.whole.ensures
