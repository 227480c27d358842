-- The verdict on a log beside the walk that it is read off.
use Rattle.std.specs.Prelude.{ℕ, List}
use Rattle.message.specs.declared.Own.{Own}
use Rattle.verdict.specs.Judge.{judge_of}
use Rattle.judge_walk.specs.Walk.{walk_of}
use Rattle.judge.specs.declared.Examined.{Examined}

unfoldable pub examined_of : Own → List ℕ → List ℕ → Examined
examined_of own identity s = record { judged = judge_of own identity s; walked = walk_of own identity s }
