-- Laws of the protocols' discriminators.
use Prim.Native.Nat.{◌≤◌}
use native.Mathlib.Omega.{arith}
use Rattle.codes.specs.declared.protocol.Protocol.{Protocol}
use Rattle.codes.specs.declared.protocol.Protocol.TheVariants.{Broadcast, Group}
use Rattle.codes.specs.Protocol.{discriminator}

-- A discriminator has one bit at most, so that half an octet holds it.
pub discriminator-small : (protocol : Protocol) → discriminator protocol ≤ 1
unfolding discriminator
discriminator-small Broadcast = omega arith
discriminator-small Group = omega arith
