-- `talk_fits` meets its contract: a broadcast call keeps nothing of a group call.
use mathlib.Core.Path.{◌≡◌, ◌∙◌}
use mathlib.Core.Logic.{◌⊎◌, inl, inr}
use Rattle.codes.specs.declared.protocol.Protocol.TheVariants.{Broadcast}
use Rattle.version.specs.declared.Table.{Table}
use Rattle.version.specs.declared.Table.TheVariants.{First, Second, Third}
use Rattle.version.specs.Version.{protocol_of}
use Rattle.fitness.proofs.Tested.{silent-fits}
use Rattle.fitness.proofs.talk_fits.Goals as goal

of_broadcast : (t : Table) → (t ≡ First) ⊎ ((t ≡ Second) ⊎ (t ≡ Third)) → protocol_of t ≡ Broadcast
unfolding protocol_of
of_broadcast t (inl e) = rw e
of_broadcast t (inr (inl e)) = rw e
of_broadcast t (inr (inr e)) = rw e

pub returns-in-First : goal.returns-in-First
returns-in-First c = c.is_silent.ensures ∙ silent-fits _ _ (of_broadcast _ c.in-First.is)

pub returns-in-Group : goal.returns-in-Group
returns-in-Group c = rw c.in-Group.is c.group_talk_fits.ensures
