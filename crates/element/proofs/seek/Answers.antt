-- `seek` meets its contract. Before each turn the answer from here on is the whole answer; each turn goes further on.
use mathlib.Core.Path.{sym, ◌∙◌}
use Rattle.element.proofs.Elements.{seeks, seek_end, seek_here, seek_cut, seek_on, next_falls}
use Rattle.element.proofs.seek.Goals as goal

pub loop-at-init : goal.loop-at-init
loop-at-init c = seeks _ _ _ _

pub loop-at-smaller : goal.loop-at-smaller
loop-at-smaller c = next_falls c.args.octets.now _ _ c.loop-at-test.true (sym (c.in_ok-at.ensures))

pub loop-at-preserved : goal.loop-at-preserved
loop-at-preserved c =
    seek_on _ _ _ _ _ _ c.loop-at-test.true (sym c.is_within.ensures ∙ c.if-is_within.false)
    (sym (c.in_ok-at.ensures)) c.loop-at.invariant

pub returns-then-is_within : goal.returns-then-is_within
returns-then-is_within c = sym (seek_here _ _ _ _ c.loop-at.invariant.most c.loop-at-test.true c.loop-at.invariant.enough (sym c.is_within.ensures ∙ c.if-is_within.true)) ∙ c.loop-at.invariant.same

pub returns-in_err-at : goal.returns-in_err-at
returns-in_err-at c =
    c.from_residual.ensures
    ∙ sym (seek_cut _ _ _ _ c.loop-at.invariant.most c.loop-at-test.true (sym c.is_within.ensures ∙ c.if-is_within.false) (sym c.in_err-at.ensures))
    ∙ c.loop-at.invariant.same

pub returns : goal.returns
returns c = sym (seek_end _ _ _ _ c.loop-at.invariant.most c.loop-at-test.false) ∙ c.loop-at.invariant.same
