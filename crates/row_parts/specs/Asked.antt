-- A context in which a row is looked up that asks for no more than ORIG.
use Rattle.std.specs.Prelude.{Bool, false}
use Rattle.codes.specs.declared.state.State.TheVariants.{U2}
use Rattle.timer.specs.Timers.{no_timers}
use Rattle.context.specs.declared.Context.{Context}
use Rattle.context.specs.declared.Remembered.TheVariants.{Nothing}
use Rattle.context.specs.Talk.{no_talk}

abbrev pub originating : Bool → Context
originating orig = record {
  state = U2;
  parameters = record { orig = orig; comm = false; datt = false; uatt = false };
  timers = no_timers;
  value = 0;
  reference = record { first = 0; second = 0; third = 0; fourth = 0 };
  remembered = Nothing;
  talk = no_talk;
}
