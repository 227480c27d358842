-- `is_quiet` meets its contract: only a row that notes nothing is asked where it leads.
use mathlib.Core.Bool.{not}
use mathlib.Core.Path.{ap, ◌∙◌}
use Rattle.codes.specs.declared.state.State.TheVariants.{U2ws}
use Rattle.context.proofs.States.{same_asked}
use Rattle.talk.specs.Quiet.{is_quiet}
use Rattle.talk.proofs.is_quiet.Goals as goal

pub returns-in-Nothing : goal.returns-in-Nothing
unfolding is_quiet
returns-in-Nothing c = rw (c.in-Nothing.is, c.ne.ensures ∙ ap not (same_asked c.args.next U2ws))
