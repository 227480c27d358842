-- `judgement_of` meets its contract, verdict by verdict; the timers that are told fit.
use Rattle.judge_numbers.specs.Judging.{judgement_of}
use Rattle.judge_numbers.proofs.Verdicts.{accepted-timed, accepted_judgement}
use Rattle.judge_numbers.proofs.judgement_of.Goals as goal

pub accepted_with-requires : goal.accepted_with-requires
accepted_with-requires c =
    let t = accepted-timed _ _ _ _ c.requires c.in-Accepted.is in
    rw c.window_told.ensures t

pub returns-in-Accepted : goal.returns-in-Accepted
returns-in-Accepted c = accepted_judgement _ _ _ _ c.in-Accepted.is _ c.window_told.ensures _ c.accepted_with.ensures

pub returns-in-Unreadable : goal.returns-in-Unreadable
unfolding judgement_of
returns-in-Unreadable c = rw c.in-Unreadable.is c.at_entry.ensures

pub returns-in-Unexplained : goal.returns-in-Unexplained
unfolding judgement_of
returns-in-Unexplained c = rw c.in-Unexplained.is c.at_entry-in-Unexplained.ensures

pub returns-in-TooLong : goal.returns-in-TooLong
unfolding judgement_of
returns-in-TooLong c = rw c.in-TooLong.is c.at_entry-in-TooLong.ensures

pub returns-in-OutOfRange : goal.returns-in-OutOfRange
unfolding judgement_of
returns-in-OutOfRange c = rw c.in-OutOfRange.is c.at_entry-in-OutOfRange.ensures
