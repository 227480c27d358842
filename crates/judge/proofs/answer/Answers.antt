-- `answer` meets its contract: why the walk ended decides.
use Rattle.judge.specs.Answer.{answer_of}
use Rattle.judge.proofs.Reading.{finished_answers}
use Rattle.judge.proofs.answer.Goals as goal

pub returns-in-Finished : goal.returns-in-Finished
returns-in-Finished c = finished_answers c.args.walked c.in-Finished.is _ c.told_by-invitation.ensures

pub returns-in-TooLong : goal.returns-in-TooLong
unfolding answer_of
returns-in-TooLong c = rw c.in-TooLong.is

pub returns-in-OutOfRange : goal.returns-in-OutOfRange
unfolding answer_of
returns-in-OutOfRange c = rw c.in-OutOfRange.is

pub returns-in-NoVersion : goal.returns-in-NoVersion
unfolding answer_of
returns-in-NoVersion c = rw c.in-NoVersion.is

pub returns-in-Torn : goal.returns-in-Torn
unfolding answer_of
returns-in-Torn c = rw c.in-Torn.is

pub returns-in-Stuck : goal.returns-in-Stuck
unfolding answer_of
returns-in-Stuck c = rw c.in-Stuck.is

pub returns-in-Astray : goal.returns-in-Astray
unfolding answer_of
returns-in-Astray c = rw c.in-Astray.is

pub returns-in-Paused : goal.returns-in-Paused
unfolding answer_of
returns-in-Paused c = rw c.in-Paused.is
