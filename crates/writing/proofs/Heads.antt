-- The first octet of a message, for either flag.
use Prim.Native.Nat.{ℕ, ◌+◌, ◌*◌, ◌≤◌}
use mathlib.Core.Path.{◌≡◌}
use mathlib.Core.Bool.{Bool, true, false}
use native.Mathlib.Omega.{arith}
use Rattle.codes.specs.declared.protocol.Protocol.{Protocol}
use Rattle.codes.specs.Protocol.{discriminator}
use Rattle.codes.proofs.Protocols.{discriminator-small}
use Rattle.message.specs.Tables.{head_of}

pub low_small : (protocol : Protocol) (low : ℕ) → low ≡ discriminator protocol → low ≤ 1
low_small protocol low q = let d : discriminator protocol ≤ 1 = discriminator-small protocol in omega arith

module _ (protocol : Protocol) (low : ℕ) (q : low ≡ discriminator protocol) (f : Bool) (v : ℕ) where
  pub head_set : f ≡ true → low + 16 * (8 + v) ≡ head_of protocol f v
  unfolding head_of
  head_set e = rw (q, e)

  pub head_clear : f ≡ false → low + 16 * v ≡ head_of protocol f v
  unfolding head_of
  head_clear e = rw (q, e)
