-- Any two outcomes that a public contract of this crate allows coincide.
use Prim.Native.Nat.{ℕ}
use mathlib.Core.Path.{◌≡◌}
use mathlib.Core.List.{List}
use Rattle.octets.proofs.Coincide.{coincide}
use Rattle.codes.specs.declared.protocol.Protocol.{Protocol}
use Rattle.std.specs.Prelude.{Result}
use Rattle.message.specs.declared.Reading.{Reading}
use Rattle.message.specs.declared.Unread.{Unread}
use Rattle.message.specs.Reading.{read_message}

pub read_coincides : (protocol : Protocol) (s : List ℕ) (a b : Result Reading Unread) → a ≡ read_message protocol s → b ≡ read_message protocol s → a ≡ b
read_coincides protocol s a b = coincide (read_message protocol s) a b
