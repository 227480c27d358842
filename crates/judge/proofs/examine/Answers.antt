-- `examine` meets its contract: the answer is read off where the walk stands, and the walk is handed on.
use Rattle.judge_walk.proofs.Standing.{walk_few}
use Rattle.judge.specs.Examining.{examined_of}
use Rattle.judge.proofs.Reading.{walk_answers}
use Rattle.judge.proofs.examine.Goals as goal

pub answer-judged-requires : goal.answer-judged-requires
answer-judged-requires c = rw c.walk-walked.ensures (walk_few _ _ _)

pub returns : goal.returns
unfolding examined_of
returns c = rw (c.answer-judged.ensures, c.walk-walked.ensures, walk_answers c.args.own c.args.identity.now c.args.log.now)
