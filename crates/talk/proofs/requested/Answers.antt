-- `requested` meets its contract: each part is the definition's.
use mathlib.Core.Path.{◌∙◌}
use native.Mathlib.Omega.{arith}
use Rattle.codes.specs.declared.state.State.TheVariants.{U5}
use Rattle.context.proofs.States.{sets-all}
use Rattle.talk.proofs.requested.Goals as goal

pub returns : goal.returns
returns c = rw (c.pending-talk.ensures, c.remembering-remembered.ensures, c.with_timer-timers.ensures, c.with_timer-stopped.ensures, c.start_row-parameters.ensures ∙ sets-all U5 c.args.context.parameters (omega arith))
