-- `is_other` meets its contract: no identity, or one whose octets are compared.
use Rattle.received.specs.Received.{is_other}
use Rattle.received.proofs.Rules.{run-within, is_named}
use Rattle.received.proofs.is_other.Goals as goal

pub is_same-requires : goal.is_same-requires
is_same-requires c = run-within _ _ _ c.in-Some.is c.requires

pub returns-in-None : goal.returns-in-None
unfolding is_other
returns-in-None c = rw c.in-None.is

pub returns-in-Some : goal.returns-in-Some
returns-in-Some c = is_named _ _ _ _ _ c.in-Some.is c.is_same.ensures
