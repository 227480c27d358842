-- `cause_of` meets its contract: each arm is a row, and the rest has no row.
use borrow.Author.Rules.{rules}
use mathlib.Core.Path.{◌∙◌}
use Rattle.octets.proofs.Rows.{no_row}
use Rattle.causes.specs.Causes.{cause_of, causes, retry_or_unspecific}
use Rattle.causes.proofs.cause_of.Goals as goal

pub returns-in-3 : goal.returns-in-3
unfolding cause_of
returns-in-3 c = rw c.in-3.is

pub returns-in-5 : goal.returns-in-5
unfolding cause_of
returns-in-5 c = rw c.in-5.is

pub returns-in-6 : goal.returns-in-6
unfolding cause_of
returns-in-6 c = rw c.in-6.is

pub returns-in-8 : goal.returns-in-8
unfolding cause_of
returns-in-8 c = rw c.in-8.is

pub returns-in-9 : goal.returns-in-9
unfolding cause_of
returns-in-9 c = rw c.in-9.is

pub returns-in-10 : goal.returns-in-10
unfolding cause_of
returns-in-10 c = rw c.in-10.is

pub returns-in-16 : goal.returns-in-16
unfolding cause_of
returns-in-16 c = rw c.in-16.is

pub returns-in-17 : goal.returns-in-17
unfolding cause_of
returns-in-17 c = rw c.in-17.is

pub returns-in-20 : goal.returns-in-20
unfolding cause_of
returns-in-20 c = rw c.in-20.is

pub returns-in-22 : goal.returns-in-22
unfolding cause_of
returns-in-22 c = rw c.in-22.is

pub returns-in-23 : goal.returns-in-23
unfolding cause_of
returns-in-23 c = rw c.in-23.is

pub returns-in-24 : goal.returns-in-24
unfolding cause_of
returns-in-24 c = rw c.in-24.is

pub returns-in-30 : goal.returns-in-30
unfolding cause_of
returns-in-30 c = rw c.in-30.is

pub returns-in-32 : goal.returns-in-32
unfolding cause_of
returns-in-32 c = rw c.in-32.is

pub returns-in-33 : goal.returns-in-33
unfolding cause_of
returns-in-33 c = rw c.in-33.is

pub returns-in-34 : goal.returns-in-34
unfolding cause_of
returns-in-34 c = rw c.in-34.is

pub returns-in-38 : goal.returns-in-38
unfolding cause_of
returns-in-38 c = rw c.in-38.is

pub returns-in-81 : goal.returns-in-81
unfolding cause_of
returns-in-81 c = rw c.in-81.is

pub returns-in-95 : goal.returns-in-95
unfolding cause_of
returns-in-95 c = rw c.in-95.is

pub returns-in-96 : goal.returns-in-96
unfolding cause_of
returns-in-96 c = rw c.in-96.is

pub returns-in-97 : goal.returns-in-97
unfolding cause_of
returns-in-97 c = rw c.in-97.is

pub returns-in-98 : goal.returns-in-98
unfolding cause_of
returns-in-98 c = rw c.in-98.is

pub returns-in-99 : goal.returns-in-99
unfolding cause_of
returns-in-99 c = rw c.in-99.is

pub returns-in-100 : goal.returns-in-100
unfolding cause_of
returns-in-100 c = rw c.in-100.is

pub returns-in-112 : goal.returns-in-112
unfolding cause_of
returns-in-112 c = rw c.in-112.is

pub returns-in_default : goal.returns-in_default
unfolding cause_of
returns-in_default c =
    let n = c.args.number in
    c.retry_or_unspecific.ensures ∙ no_row n (retry_or_unspecific n) causes c.in_default.in_default-own.rest
