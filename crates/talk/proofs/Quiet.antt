-- A quiet row leaves what is kept as it is.
use mathlib.Core.Path.{◌≡◌, refl}
use mathlib.Core.Bool.{Bool, true, false, ◌||◌}
use borrow.Author.Tests.{not-true}
use Rattle.octets.proofs.Choice.{never}
use Rattle.codes.specs.declared.state.State.{State}
use Rattle.codes.specs.declared.state.State.TheVariants.{U2ws}
use Rattle.codes.specs.declared.attributes.Parameters.{Parameters}
use Rattle.context.specs.declared.Talk.{Talk}
use Rattle.context.specs.States.{same}
use Rattle.transitions.specs.declared.Note.{Note}
use Rattle.call.specs.Talk.{noted, awaiting_after}
use Rattle.talk.specs.Quiet.{is_quiet}

or-false : (b : Bool) → (b || false) ≡ b
or-false true = refl
or-false false = refl

module _ (from next : State) (p : Parameters) (k : Talk) where
  pub quiet_keeps : (note : Note) → is_quiet note next ≡ true → k ≡ awaiting_after from next p (noted note k)
  unfolding is_quiet noted awaiting_after
  quiet_keeps Note.Nothing e = rw (not-true (same next U2ws) e, or-false k.awaiting)
  quiet_keeps Note.WeChose e = never e
  quiet_keeps Note.CellChose e = never e
  quiet_keeps Note.TerminationPends e = never e
  quiet_keeps Note.StatusPends e = never e
  quiet_keeps Note.TerminationDropped e = never e
