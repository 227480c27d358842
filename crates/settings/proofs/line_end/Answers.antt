-- `settings::line_end` meets its contract: the kit's search finds the first LF of what stands from the place on.
use native.Mathlib.Omega.{arith}
use lib.ListN.{drop, length-drop}
use Rattle.settings.proofs.Feed.{behind, feed_found, no_feed}
use Rattle.settings.proofs.line_end.Goals as goal

pub returns-in-Some : goal.returns-in-Some
returns-in-Some c = let a = c.args in rw (feed_found _ (drop a.at a.file.now) (behind a.at a.file.now) c.in-Some.place c.in-Some.ensures)

pub returns-in-None : goal.returns-in-None
returns-in-None c =
    let a = c.args in
    omega (arith, no_feed _ (drop a.at a.file.now) (behind a.at a.file.now) c.in-None.ensures, length-drop a.at a.file.now)
