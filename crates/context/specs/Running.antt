-- The timer that runs in a context.
use Rattle.std.specs.Prelude.{ℕ}
use Rattle.timer.specs.Timers.{running_among}
use Rattle.context.specs.declared.Context.{Context}

-- Its number, 0 where none runs.
abbrev pub runs : Context → ℕ
runs x = running_among x.timers
