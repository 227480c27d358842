-- `identity_in` meets its contract. An element that is found lies below the end.
use mathlib.Core.Path.{sym, ap, subst, ◌∙◌}
use native.Mathlib.Omega.{arith}
use Rattle.std.specs.Result.{result_ok}
use Rattle.element.proofs.Elements.{Told, seek_told}
use Rattle.message.specs.Reading.{identity_behind, identity_found}
use Rattle.message.proofs.kinds.identity_in.Goals as goal

pub overflow_add-place : goal.overflow_add-place
overflow_add-place c = let t = subst (Told c.args.octets.now 2 0x17 0x17) (sym c.in_ok-place.ensures) (seek_told c.args.octets.now 2 0x17 0x17) in omega (arith, t.below)

pub returns : goal.returns
unfolding identity_behind
returns c = c.ok.ensures.value ∙ ap result_ok c.counted_at.ensures ∙ ap (identity_found c.args.octets.now) c.in_ok-place.ensures
