-- `awaiting_after` meets its contract: the states are the same, or not.
use mathlib.Core.Bool.{not}
use mathlib.Core.Path.{ap, ◌∙◌}
use Rattle.codes.specs.declared.state.State.TheVariants.{U2ws}
use Rattle.context.proofs.States.{same_asked}
use Rattle.call.specs.Talk.{awaiting_after}
use Rattle.talk.proofs.awaiting_after.Goals as goal

pub returns : goal.returns
unfolding awaiting_after
returns c = rw (c.awaited.ensures, c.eq.ensures ∙ same_asked c.args.next U2ws, c.ne.ensures ∙ ap not (same_asked c.args.from c.args.next))
