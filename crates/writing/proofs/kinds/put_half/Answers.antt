-- `put_half` meets its contract: absent or there.
use native.Mathlib.Omega.{arith}
use Rattle.limits.proofs.Tests.{half_room, half_below}
use Rattle.writing.proofs.Bodies.{put_none, put_one}
use Rattle.writing.proofs.kinds.put_half.Goals as goal

pub overflow_add-buffer : goal.overflow_add-buffer
overflow_add-buffer c = omega (arith, half_below _ _ c.in-Some.is c.requires.2)

pub bounds-buffer-at : goal.bounds-buffer-at
bounds-buffer-at c = half_room _ _ _ _ c.in-Some.is c.requires.0

pub overflow_add-result : goal.overflow_add-result
overflow_add-result c = omega (arith, half_room _ _ _ _ c.in-Some.is c.requires.0)

pub returns-in-None : goal.returns-in-None
returns-in-None c = put_none _ _ _ _ c.in-None.is

pub returns-in-Some : goal.returns-in-Some
returns-in-Some c = put_one _ _ _ _ _ c.in-Some.is
