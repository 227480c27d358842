-- `judge` meets its contract: the answer is read off where the walk stands.
use mathlib.Core.Path.{ap, ◌∙◌}
use Rattle.judge_walk.proofs.Standing.{walk_few}
use Rattle.judge.specs.Answer.{answer_of}
use Rattle.judge.proofs.Reading.{walk_answers}
use Rattle.judge.proofs.judge.Goals as goal

pub answer-requires : goal.answer-requires
answer-requires c = rw c.walk.ensures (walk_few _ _ _)

pub returns : goal.returns
returns c = c.answer.ensures ∙ ap answer_of c.walk.ensures ∙ walk_answers c.args.own c.args.identity.now c.args.log.now
