-- `write` meets its contract: every octet is stored.
use Rattle.settings_octets.specs.Octets.{octets_of}
use Rattle.settings_octets.proofs.write.Goals as goal

pub returns : goal.returns
unfolding octets_of
returns c = rw (← c.length_octet-count.ensures, c.little-joining.ensures, c.little-invitation.ensures)
