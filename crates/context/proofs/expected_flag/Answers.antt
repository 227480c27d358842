-- `expected_flag` meets its contract: whoever chose the value decides, and else the state.
use Rattle.context.specs.Talk.{flag_by, flag_of}
use Rattle.context.proofs.expected_flag.Goals as goal

pub returns-in-Neither : goal.returns-in-Neither
unfolding flag_of flag_by
returns-in-Neither c = rw c.in-Neither.is c.flag_in.ensures

pub returns-in-Us : goal.returns-in-Us
unfolding flag_of flag_by
returns-in-Us c = rw c.in-Us.is

pub returns-in-Cell : goal.returns-in-Cell
unfolding flag_of flag_by
returns-in-Cell c = rw c.in-Cell.is
