-- `read` meets its contract: the tests of the first two octets in order, then the body.
use borrow.Author.Tests.{le-leb, le-ltb, lt-ltb, eq-eqb, ne_eqb}
use mathlib.Core.Path.{◌≡◌, sym, ◌∙◌}
use Prim.Native.Nat.{◌%◌}
use lib.ListN.{get_or}
use Rattle.codes.specs.Protocol.{discriminator}
use Rattle.message.specs.Reading.{read_message}
use Rattle.message.proofs.Bodies.{passed, head_good}
use Rattle.message.proofs.read.Goals as goal

pub returns-then-octets-gt251 : goal.returns-then-octets-gt251
unfolding read_message
returns-then-octets-gt251 c = simp (lt-ltb _ _ c.if-octets-gt251.true)

pub returns-then-octets-lt2 : goal.returns-then-octets-lt2
unfolding read_message
returns-then-octets-lt2 c = simp (le-ltb _ _ c.if-octets-gt251.false, lt-ltb _ _ c.if-octets-lt2.true)

pub returns-then-first-discriminator : goal.returns-then-first-discriminator
unfolding read_message
returns-then-first-discriminator c = simp (le-ltb _ _ c.if-octets-gt251.false, le-ltb _ _ c.if-octets-lt2.false, ne_eqb _ _ (λ e. c.if-first-discriminator.true (e ∙ sym c.discriminator.ensures)))

pub returns-then-kind-ge128 : goal.returns-then-kind-ge128
unfolding read_message
returns-then-kind-ge128 c =
    let ours : let a = c.args in get_or a.octets.now 0 0 % 16 ≡ discriminator a.protocol =
    c.if-first-discriminator.false ∙ c.discriminator.ensures in
    simp (le-ltb _ _ c.if-octets-gt251.false, le-ltb _ _ c.if-octets-lt2.false, eq-eqb _ _ (ours), le-leb _ _ c.if-kind-ge128.true)

pub returns-in_err-message : goal.returns-in_err-message
returns-in_err-message c =
    let ours : let a = c.args in get_or a.octets.now 0 0 % 16 ≡ discriminator a.protocol =
    c.if-first-discriminator.false ∙ c.discriminator.ensures in
    passed _ _ c.from_residual.ensures.1
    ∙ head_good _ c.args.octets.now _ c.if-octets-gt251.false c.if-octets-lt2.false (ours) c.if-kind-ge128.false c.in_err-message.ensures

pub returns : goal.returns
returns c =
    let ours : let a = c.args in get_or a.octets.now 0 0 % 16 ≡ discriminator a.protocol =
    c.if-first-discriminator.false ∙ c.discriminator.ensures in
    head_good _ c.args.octets.now _ c.if-octets-gt251.false c.if-octets-lt2.false (ours) c.if-kind-ge128.false c.in_ok-message.ensures
