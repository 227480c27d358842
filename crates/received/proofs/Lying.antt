-- What reading gives: the identity that rule 4 asks for lies within the octets, as every run of a message that was read.
use Prim.Native.Nat.{ℕ}
use mathlib.Core.Path.{◌≡◌}
use mathlib.Core.List.{List}
use mathlib.Core.Bool.{true}
use borrow.Author.Tests.{leb-true}
use Rattle.codes.specs.declared.protocol.Protocol.{Protocol}
use Rattle.std.specs.Prelude.{Some, None, Ok}
use Rattle.message.specs.declared.Message.{Message}
use Rattle.message.specs.declared.Reading.{Reading}
use Rattle.message.specs.declared.Message.TheVariants.{
  Connect,
  GetStatus,
  ImmediateSetup,
  SetParameter,
  Setup,
  Status,
  Termination,
  TerminationReject,
  TerminationRequest,
}
use Rattle.message.specs.Content.{lies, runs_lie}
use Rattle.message.specs.Reading.{read_message}
use Rattle.message.proofs.Lying.{read-lies}
use Rattle.received.specs.Received.{asked_of, Within}

asked-within : (s : List ℕ) (m : Message) → runs_lie s m ≡ true → Within s (asked_of m).identity
unfolding lies asked_of Within
asked-within s (Connect reference originator) e = tt
asked-within s (GetStatus None) e = tt
asked-within s (GetStatus (Some run)) e = leb-true _ _ e
asked-within s (ImmediateSetup key classmark identity reference) e = tt
asked-within s (SetParameter attributes) e = tt
asked-within s (Setup reference) e = tt
asked-within s (Status cause state attributes) e = tt
asked-within s (Termination cause) e = tt
asked-within s (TerminationReject cause) e = tt
asked-within s (TerminationRequest reference) e = tt

pub read-within : (protocol : Protocol) (s : List ℕ) (read : Reading) → read_message protocol s ≡ Ok read → Within s (asked_of read.message).identity
read-within protocol s read e = asked-within s read.message (read-lies s protocol read e)
