-- `write_get_status` meets its contract: without an identity, or as `write_identified` writes it.
use native.Mathlib.Omega.{arith}
use lib.ListN.{length-set}
use Rattle.writing.proofs.Bodies.{get_status-bare, get_status-named, get_status-short}
use Rattle.writing.proofs.kinds.write_get_status.Goals as goal

pub returns-then-buffer-lt2 : goal.returns-then-buffer-lt2
returns-then-buffer-lt2 c = get_status-short _ _ _ _ c.in-None.is c.if-buffer-lt2.true

pub bounds-buffer-1 : goal.bounds-buffer-1
bounds-buffer-1 c = simp length-set (omega arith)

pub returns-else-buffer-lt2 : goal.returns-else-buffer-lt2
returns-else-buffer-lt2 c = get_status-bare _ _ _ _ c.in-None.is c.if-buffer-lt2.false

pub returns-in-Some : goal.returns-in-Some
returns-in-Some c = get_status-named _ _ _ _ _ _ _ c.in-Some.is c.write_identified.ensures
