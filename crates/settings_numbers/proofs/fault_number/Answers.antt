-- `fault_number` meets its contract, fault by fault.
use Rattle.settings_numbers.specs.Configuring.{fault_number}
use Rattle.settings_numbers.proofs.fault_number.Goals as goal

pub returns-in-NoLineFeed : goal.returns-in-NoLineFeed
unfolding fault_number
returns-in-NoLineFeed c = rw c.in-NoLineFeed.is

pub returns-in-UnknownName : goal.returns-in-UnknownName
unfolding fault_number
returns-in-UnknownName c = rw c.in-UnknownName.is

pub returns-in-BadKey : goal.returns-in-BadKey
unfolding fault_number
returns-in-BadKey c = rw c.in-BadKey.is

pub returns-in-BadClassmark : goal.returns-in-BadClassmark
unfolding fault_number
returns-in-BadClassmark c = rw c.in-BadClassmark.is

pub returns-in-BadIdentity : goal.returns-in-BadIdentity
unfolding fault_number
returns-in-BadIdentity c = rw c.in-BadIdentity.is

pub returns-in-BadJoining : goal.returns-in-BadJoining
unfolding fault_number
returns-in-BadJoining c = rw c.in-BadJoining.is

pub returns-in-Repeated : goal.returns-in-Repeated
unfolding fault_number
returns-in-Repeated c = rw c.in-Repeated.is

pub returns-in-NoKey : goal.returns-in-NoKey
unfolding fault_number
returns-in-NoKey c = rw c.in-NoKey.is

pub returns-in-NoClassmark : goal.returns-in-NoClassmark
unfolding fault_number
returns-in-NoClassmark c = rw c.in-NoClassmark.is

pub returns-in-NoIdentity : goal.returns-in-NoIdentity
unfolding fault_number
returns-in-NoIdentity c = rw c.in-NoIdentity.is

pub returns-in-NoJoining : goal.returns-in-NoJoining
unfolding fault_number
returns-in-NoJoining c = rw c.in-NoJoining.is

pub returns-in-BadInvitation : goal.returns-in-BadInvitation
unfolding fault_number
returns-in-BadInvitation c = rw c.in-BadInvitation.is

pub returns-in-NoInvitation : goal.returns-in-NoInvitation
unfolding fault_number
returns-in-NoInvitation c = rw c.in-NoInvitation.is
