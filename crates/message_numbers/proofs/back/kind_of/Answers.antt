-- `kind_of` meets its contract: each arm is a row of the table, and the rest has no row.
use Rattle.octets.proofs.Rows.{no_row}
use Rattle.std.specs.Prelude.{None}
use Rattle.message_numbers.specs.Numbers.{kind_rows, kind_of}
use Rattle.message_numbers.proofs.back.kind_of.Goals as goal

pub returns-in-49 : goal.returns-in-49
unfolding kind_of
returns-in-49 c = rw (c.in-49.is, c.classmark_of-classmark.ensures, c.run_of-identity.ensures, c.reference_of-reference.ensures)

pub returns-in-50 : goal.returns-in-50
unfolding kind_of
returns-in-50 c = rw (c.in-50.is, c.reference_of-reference.ensures)

pub returns-in-51 : goal.returns-in-51
unfolding kind_of
returns-in-51 c = rw (c.in-51.is, c.reference_of-reference.ensures)

pub returns-in-52 : goal.returns-in-52
unfolding kind_of
returns-in-52 c = rw (c.in-52.is, c.run_of-cause.ensures)

pub returns-in-53 : goal.returns-in-53
unfolding kind_of
returns-in-53 c = rw (c.in-53.is, c.reference_of-reference.ensures)

pub returns-in-54 : goal.returns-in-54
unfolding kind_of
returns-in-54 c = rw (c.in-54.is, c.run_of-cause.ensures)

pub returns-in-56 : goal.returns-in-56
unfolding kind_of
returns-in-56 c = rw (c.in-56.is, c.status_of.ensures, c.run_of-cause.ensures)

pub returns-in-57 : goal.returns-in-57
unfolding kind_of
returns-in-57 c = rw (c.in-57.is, c.identity_of.ensures)

pub returns-in-58 : goal.returns-in-58
unfolding kind_of
returns-in-58 c = rw c.in-58.is

pub returns-in_default : goal.returns-in_default
unfolding kind_of
returns-in_default c = no_row c.args.numbers.kind None (kind_rows c.args.numbers) c.in_default.in_default-own.rest
