-- The protocols whose messages clause 8 draws: broadcast call control, GSM 04.69, and group call control, 24.068.
use Rattle.std.specs.Prelude.{ℕ}
use Rattle.codes.specs.declared.protocol.Protocol.{Protocol}
use Rattle.codes.specs.declared.protocol.Protocol.TheVariants.{Broadcast, Group}

-- 9.1 of each: the protocol discriminator. Document 01, "Received messages", rule 1: "low four bits of octet 1".
unfoldable pub discriminator : Protocol → ℕ
discriminator Broadcast = 1
discriminator Group = 0
