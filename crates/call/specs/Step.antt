-- Document 01, "Events and steps": what a row of the step table brings about, GET STATUS, SET PARAMETER, "reported" and "ignored".
use Rattle.std.specs.Prelude.{ℕ, List, cond}
use Rattle.codes.specs.declared.state.State.{State}
use Rattle.codes.specs.declared.state.State.TheVariants.{U0}
use Rattle.codes.specs.declared.attributes.Parameters.{Parameters}
use Rattle.codes.specs.Attributes.{parameters_of}
use Rattle.octets.specs.declared.Reference.{Reference}
use Rattle.context.specs.declared.Context.{Context}
use Rattle.context.specs.States.{same}
use Rattle.context.specs.Context.{entering, cleared}
use Rattle.fitness.specs.Fitness.{Fitness, consistent_by}
use Rattle.version.specs.declared.Table.{Table}
use Rattle.fitness.specs.Tables.{fitness_of}
use Rattle.transitions.specs.declared.Send.TheVariants as Send
use Rattle.transitions.specs.declared.Stores.{Stores}
use Rattle.transitions.specs.declared.Stores.TheVariants.{Nothing, ValueAndReference, ItsReference, ItsReferenceAndOriginator}
use Rattle.transitions.specs.declared.Taken.{Taken}
use Rattle.transitions.specs.declared.Decision.{Decision}
use Rattle.transitions.specs.declared.Decision.TheVariants.{Take, NoStep, Ignore, Report, TellStatus, SetParameters}
use Rattle.transitions.specs.Table.{Row, step_table, timers_after, remembered_after, decided_by}
use Rattle.call.specs.declared.Event.{Event}
use Rattle.call.specs.declared.Reason.{Reason}
use Rattle.call.specs.declared.Reason.TheVariants.{NoCall, CommFalse}
use Rattle.call.specs.declared.Seen.{Seen}
use Rattle.call.specs.declared.Sending.{Sending}
use Rattle.call.specs.declared.Sending.TheVariants.{OfRow, Status, ErrorStatus}
use Rattle.call.specs.declared.Settled.{Settled}
use Rattle.call.specs.Events.{seen_of}
use Rattle.call.specs.Reasons.{reason_number}
use Rattle.call.specs.Talk.{noted, adopted, originating, awaiting_after, sent_in, unsent, flushed}

-- A step that stays in its state keeps the parameters; another enters its next state.
unfoldable pub parameters_after : State → Parameters → State → Parameters
parameters_after from p next = cond (same from next) p (entering next p)

-- What a row stores it has from the event, and keeps the rest.
unfoldable pub value_after : Stores → (carried kept : ℕ) → ℕ
value_after Nothing carried kept = kept
value_after ValueAndReference carried kept = carried
value_after ItsReference carried kept = kept
value_after ItsReferenceAndOriginator carried kept = kept

unfoldable pub reference_after : Stores → (carried kept : Reference) → Reference
reference_after Nothing carried kept = kept
reference_after ValueAndReference carried kept = carried
reference_after ItsReference carried kept = carried
reference_after ItsReferenceAndOriginator carried kept = carried

-- Entering U0 clears.
unfoldable pub afterwards : Context → Taken → Seen → Context
afterwards x d e =
    let p : Parameters = parameters_after x.state (originating d.stores e.attributes x.parameters) d.next in
    cond (same d.next U0) cleared
    (record {
      state = d.next;
      parameters = p;
      timers = timers_after d x.timers;
      value = value_after d.stores e.value x.value;
      reference = reference_after d.stores e.reference x.reference;
      remembered = remembered_after d.memory x.state x.remembered;
      talk = awaiting_after x.state d.next p (noted d.note x.talk);
    })

-- Nothing is sent.
abbrev pub silent : Sending
silent = OfRow Send.Nothing

-- Answer 0: taken. What was pending is sent as soon as it can be.
abbrev pub took : Context → ℕ → Sending → Settled
took x actions sends = record { answer = 0; reason = 0; context = flushed x; actions = actions; sends = sends; sent = sent_in x }

-- Answer 1: message ignored, for this reason.
unfoldable pub ignored : Reason → Context → Settled
ignored reason x = record { answer = 1; reason = reason_number reason; context = x; actions = 0; sends = silent; sent = unsent x }

-- Answer 3: event has no step here.
unfoldable pub no_step : Context → Settled
no_step x = record { answer = 3; reason = 0; context = x; actions = 0; sends = silent; sent = unsent x }

-- "Reported" means answer 2 and a STATUS if COMM was true, else answer 1: COMM false.
unfoldable pub reported_with : ℕ → Context → Settled
reported_with cause x = cond x.parameters.comm (record { answer = 2; reason = 0; context = x; actions = 0; sends = ErrorStatus cause; sent = unsent x }) (ignored CommFalse x)

-- GET STATUS: with COMM true answer 0 and a STATUS with cause 30, else ignored: COMM false.
unfoldable pub status_told : Context → Settled
status_told x = cond x.parameters.comm (took x 0 (Status 30)) (ignored CommFalse x)

-- The context with other parameters.
abbrev pub with_parameters : Parameters → Context → Context
with_parameters p x =
    record { state = x.state; parameters = p; timers = x.timers; value = x.value; reference = x.reference; remembered = x.remembered; talk = x.talk }

-- SET PARAMETER, in the context `x`, which is `y` where it is taken: consistent values are set, answer 0, no reply. Inconsistent ones set nothing and are reported with the cause 6.5.1.2 names,
-- "message incompatible with protocol state": 98.
unfoldable pub parameters_set : Fitness → ℕ → (x y : Context) → Settled
parameters_set fitness attributes x y =
    let p : Parameters = parameters_of attributes in
    cond (consistent_by fitness x.state p) (took (with_parameters p y) 0 silent) (reported_with 98 x)

-- What the table's decision brings about. In U0 it ignores a message: no call.
unfoldable pub carried_out : Fitness → Context → Decision → Seen → Settled
carried_out fitness x (Take d) e = took (afterwards (adopted x e) d e) d.actions (OfRow d.sends)
carried_out fitness x NoStep e = no_step x
carried_out fitness x Ignore e = ignored NoCall x
carried_out fitness x (Report cause) e = reported_with cause x
carried_out fitness x TellStatus e = status_told x
carried_out fitness x SetParameters e = parameters_set fitness e.attributes x (adopted x e)

-- The step of an event by a table's rows, and what it says of fitness: its row for the event, carried out.
unfoldable pub step_by : Fitness → List Row → Context → Event → Settled
step_by fitness rows x event = let e : Seen = seen_of event in carried_out fitness x (decided_by rows x e.number e.code) e

-- By a step table.
abbrev pub step_value : Table → Context → Event → Settled
step_value table = step_by (fitness_of table) (step_table table)
