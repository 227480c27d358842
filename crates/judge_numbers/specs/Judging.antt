-- The judge's verdict, as C has it: the answer number; of 0 how many entries, of 8 and 9 the entry that is refused, of any other 0; the least and the greatest joining
-- timer in milliseconds, 0 unless accepted; and those of the invitation timer, 0 unless accepted with a version that tells them.
use Rattle.std.specs.Prelude.{ℕ, ◌≤◌}
use Rattle.timer.specs.declared.Window.{Window}
use Rattle.timer.specs.Timers.{greatest_invitation}
use Rattle.verdict.specs.declared.Invitation.{Invitation}
use Rattle.verdict.specs.declared.Invitation.TheVariants.{Untold, Told}
use Rattle.verdict.specs.declared.Judged.{Judged}
use Rattle.verdict.specs.declared.Judged.TheVariants.{Accepted, Unreadable, Unexplained, TooLong, OutOfRange}
use Rattle.judge_numbers.specs.declared.Judgement.{Judgement}

unfoldable pub at_entry : (answer entry : ℕ) → Judgement
at_entry answer entry = record { answer = answer; entry = entry; least = 0; greatest = 0; invitation_least = 0; invitation_greatest = 0 }

-- The invitation timers that are told; where none are, from 0 to 0.
unfoldable pub window_told : Invitation → Window
window_told Untold = record { least = 0; greatest = 0 }
window_told (Told window) = window

unfoldable pub accepted_with : (count : ℕ) (joining invitation : Window) → Judgement
accepted_with count joining invitation = record {
  answer = 0;
  entry = count;
  least = joining.least;
  greatest = joining.greatest;
  invitation_least = invitation.least;
  invitation_greatest = invitation.greatest;
}

unfoldable pub judgement_of : Judged → Judgement
judgement_of (Accepted count joining invitation) = accepted_with count joining (window_told invitation)
judgement_of (Unreadable n) = at_entry 8 n
judgement_of (Unexplained n) = at_entry 9 n
judgement_of TooLong = at_entry 10 0
judgement_of OutOfRange = at_entry 4 0

-- The timers of a verdict are at most 600,000 ms, so that C's numbers hold them.
abbrev pub Fits : Window → Type 0
Fits w = (w.least ≤ greatest_invitation) × (w.greatest ≤ greatest_invitation)

abbrev pub Timed : Judged → Type 0
Timed (Accepted count joining invitation) = Fits joining × Fits (window_told invitation)
Timed (Unreadable n) = Unit
Timed (Unexplained n) = Unit
Timed TooLong = Unit
Timed OutOfRange = Unit
