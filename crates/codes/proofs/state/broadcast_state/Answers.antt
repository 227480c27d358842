-- `broadcast_state` meets its contract: each arm is a row, and the rest has no row.
use Rattle.octets.proofs.Rows.{no_row}
use Rattle.std.specs.Prelude.{None}
use Rattle.codes.specs.CallStates.{broadcast_states}
use Rattle.codes.proofs.state.broadcast_state.Goals as goal

pub returns-in-0 : goal.returns-in-0
returns-in-0 c = rw c.in-0.is

pub returns-in-1 : goal.returns-in-1
returns-in-1 c = rw c.in-1.is

pub returns-in-2 : goal.returns-in-2
returns-in-2 c = rw c.in-2.is

pub returns-in-3 : goal.returns-in-3
returns-in-3 c = rw c.in-3.is

pub returns-in-4 : goal.returns-in-4
returns-in-4 c = rw c.in-4.is

pub returns-in-5 : goal.returns-in-5
returns-in-5 c = rw c.in-5.is

pub returns-in-6 : goal.returns-in-6
returns-in-6 c = rw c.in-6.is

pub returns-in-7 : goal.returns-in-7
returns-in-7 c = rw c.in-7.is

pub returns-in-8-to-255 : goal.returns-in-8-to-255
returns-in-8-to-255 c = no_row c.args.code None broadcast_states c.in-8-to-255.in-8-to-255-own.rest
