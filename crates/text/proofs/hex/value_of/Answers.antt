-- `value_of` meets its contract: each of its seven ways is one of the definition's.
use borrow.Author.Tests.{lt-ltb, le-ltb, le-leb, lt-leb}
use native.Mathlib.Omega.{arith}
use Rattle.text.specs.Hex.{value_of}
use Rattle.text.proofs.hex.value_of.Goals as goal

pub returns-then-character-lt48 : goal.returns-then-character-lt48
unfolding value_of
returns-then-character-lt48 c = (simp (lt-ltb _ _ c.if-character-lt48.true), omega arith)

pub returns-then-character-le57 : goal.returns-then-character-le57
unfolding value_of
returns-then-character-le57 c = (simp (le-ltb _ _ c.if-character-lt48.false, le-leb _ _ c.if-character-le57.true), omega arith)

pub returns-then-character-lt65 : goal.returns-then-character-lt65
unfolding value_of
returns-then-character-lt65 c = (simp (le-ltb _ _ c.if-character-lt48.false, lt-leb _ _ c.if-character-le57.false, lt-ltb _ _ c.if-character-lt65.true), omega arith)

pub returns-then-character-le70 : goal.returns-then-character-le70
unfolding value_of
returns-then-character-le70 c = (simp (le-ltb _ _ c.if-character-lt48.false, lt-leb _ _ c.if-character-le57.false, le-ltb _ _ c.if-character-lt65.false, le-leb _ _ c.if-character-le70.true), omega arith)

pub returns-then-character-lt97 : goal.returns-then-character-lt97
unfolding value_of
returns-then-character-lt97 c = (simp (le-ltb _ _ c.if-character-lt48.false, lt-leb _ _ c.if-character-le57.false, le-ltb _ _ c.if-character-lt65.false, lt-leb _ _ c.if-character-le70.false, lt-ltb _ _ c.if-character-lt97.true), omega arith)

pub returns-then-character-le102 : goal.returns-then-character-le102
unfolding value_of
returns-then-character-le102 c = (simp (le-ltb _ _ c.if-character-lt48.false, lt-leb _ _ c.if-character-le57.false, le-ltb _ _ c.if-character-lt65.false, lt-leb _ _ c.if-character-le70.false, le-ltb _ _ c.if-character-lt97.false, le-leb _ _ c.if-character-le102.true), omega arith)

pub returns : goal.returns
unfolding value_of
returns c = (simp (le-ltb _ _ c.if-character-lt48.false, lt-leb _ _ c.if-character-le57.false, le-ltb _ _ c.if-character-lt65.false, lt-leb _ _ c.if-character-le70.false, le-ltb _ _ c.if-character-lt97.false, lt-leb _ _ c.if-character-le102.false), omega arith)
