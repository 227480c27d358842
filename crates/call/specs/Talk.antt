-- What only a group call keeps, step by step: 24.068, 6.3.1.1, 6.4.1 and 6.5.1.1. In a broadcast call nothing is pending and no value is awaited, and all of this
-- leaves the context as it is.
use Rattle.std.specs.Prelude.{ℕ, Bool, true, false, cond, not, ◌&&◌, ◌||◌, eqb, Some}
use Rattle.codes.specs.declared.state.State.{State}
use Rattle.codes.specs.declared.state.State.TheVariants.{U5, U2ws}
use Rattle.codes.specs.declared.attributes.Parameters.{Parameters}
use Rattle.codes.specs.Attributes.{parameters_of}
use Rattle.timer.specs.declared.Timer.TheVariants.{MmEst, Term}
use Rattle.timer.specs.Timers.{with_timer}
use Rattle.context.specs.declared.Chooser.TheVariants.{Us, Cell}
use Rattle.context.specs.declared.Context.{Context}
use Rattle.context.specs.declared.Talk.{Talk}
use Rattle.context.specs.Context.{entering}
use Rattle.context.specs.Remembered.{remembering}
use Rattle.context.specs.States.{same}
use Rattle.transitions.specs.declared.Note.{Note}
use Rattle.transitions.specs.declared.Stores.{Stores}
use Rattle.call.specs.declared.Seen.{Seen}
use Rattle.call.specs.declared.Sent.{Sent}

-- What a row notes.
unfoldable pub noted : Note → Talk → Talk
noted Note.Nothing k = k
noted Note.WeChose k = record { chooser = Us; termination = k.termination; status = k.status; awaiting = k.awaiting }
noted Note.CellChose k = record { chooser = Cell; termination = k.termination; status = k.status; awaiting = k.awaiting }
noted Note.TerminationPends k = record { chooser = k.chooser; termination = true; status = k.status; awaiting = k.awaiting }
noted Note.StatusPends k = record { chooser = k.chooser; termination = k.termination; status = true; awaiting = k.awaiting }
noted Note.TerminationDropped k = record { chooser = k.chooser; termination = false; status = k.status; awaiting = k.awaiting }

-- The context with this value, and none awaited any more.
abbrev pub with_value : ℕ → Context → Context
with_value value x = record {
  state = x.state;
  parameters = x.parameters;
  timers = x.timers;
  value = value;
  reference = x.reference;
  remembered = x.remembered;
  talk = record { chooser = x.talk.chooser; termination = x.talk.termination; status = x.talk.status; awaiting = false };
}

-- "the transaction identifier received in the next GCC message from the network": where a value is awaited, a message that is taken gives it, before its row.
unfoldable pub adopted : Context → Seen → Context
adopted x e = cond (x.talk.awaiting && eqb e.number 18) (with_value e.value x) x

-- CONNECT in a group call names us as originator, or not; the parameters before a state is entered.
unfoldable pub originating : Stores → ℕ → Parameters → Parameters
originating Stores.Nothing attributes p = p
originating Stores.ValueAndReference attributes p = p
originating Stores.ItsReference attributes p = p
originating Stores.ItsReferenceAndOriginator attributes p = record { orig = (parameters_of attributes).orig; comm = p.comm; datt = p.datt; uatt = p.uatt }

-- "Having entered sub-state U2ws, the MS not considering itself as the originator of the group call (ORIG = F)" awaits the value of the next message.
unfoldable pub awaiting_after : State → State → Parameters → Talk → Talk
awaiting_after from next p k = record {
  chooser = k.chooser;
  termination = k.termination;
  status = k.status;
  awaiting = k.awaiting || (same next U2ws && (not (same from next) && not p.orig));
}

-- ---- "as soon as COMM = T"

-- What was pending is sent: a STATUS where COMM is true, and a TERMINATION REQUEST where ORIG is true too.
unfoldable pub sent_in : Context → Sent
sent_in x = record {
  status = x.parameters.comm && x.talk.status;
  request = x.parameters.comm && (x.parameters.orig && x.talk.termination);
  state = x.state;
  parameters = x.parameters;
}

-- Nothing is sent.
abbrev pub unsent : Context → Sent
unsent x = record { status = false; request = false; state = x.state; parameters = x.parameters }

-- The pending request is sent: T_MM-est is stopped, T_term set, the state remembered, U5 entered.
abbrev pub requested : Context → Context
requested x = record {
  state = U5;
  parameters = entering U5 x.parameters;
  timers = with_timer (Some Term) true (with_timer (Some MmEst) false x.timers);
  value = x.value;
  reference = x.reference;
  remembered = remembering x.state;
  talk = record { chooser = x.talk.chooser; termination = false; status = x.talk.status; awaiting = x.talk.awaiting };
}

-- What is sent is no longer pending.
abbrev pub answered : Bool → Context → Context
answered sends x = record {
  state = x.state;
  parameters = x.parameters;
  timers = x.timers;
  value = x.value;
  reference = x.reference;
  remembered = x.remembered;
  talk = record { chooser = x.talk.chooser; termination = x.talk.termination; status = x.talk.status && not sends; awaiting = x.talk.awaiting };
}

unfoldable pub flushed : Context → Context
flushed x = let y : Context = answered (sent_in x).status x in cond (sent_in x).request (requested y) y
