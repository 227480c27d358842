-- Document 01, "Events and steps", and 24.068, 6.2 to 6.5: the step tables, row by row, and what a table of rows says of an event in a context.
use Rattle.std.specs.Prelude.{ℕ, ◌+◌, List, [], ◌∷◌, ◌++◌, Bool, true, false, cond, ◌&&◌, eqb, Option, Some, None}
use Rattle.octets.specs.Rows.{rows}
use Rattle.codes.specs.declared.state.State.{State}
use Rattle.codes.specs.declared.state.State.TheVariants.{U0, U0p, U1, U2, U3, U4, U5, U6, U2sl, U2wr, U2r, U2ws, U2sr, U2nc}
use Rattle.codes.specs.declared.protocol.Protocol.{Protocol}
use Rattle.codes.specs.MessageTypes.{
  IMMEDIATE-SETUP,
  SETUP,
  CONNECT,
  TERMINATION,
  TERMINATION-REQUEST,
  TERMINATION-REJECT,
  STATUS,
  GET-STATUS,
  SET-PARAMETER,
}
use Rattle.timer.specs.declared.Timers.{Timers}
use Rattle.version.specs.declared.Table.{Table}
use Rattle.version.specs.declared.Table.TheVariants.{First, Second, Third, Group}
use Rattle.version.specs.Version.{protocol_of}
use Rattle.context.specs.declared.Context.{Context}
use Rattle.context.specs.declared.Remembered.{Remembered}
use Rattle.context.specs.Remembered.{remembering, returning}
use Rattle.context.specs.States.{same}
use Rattle.fitness.specs.Tables.{sub_states}
use Rattle.timer.specs.declared.Timer.{Timer}
use Rattle.timer.specs.declared.Timer.TheVariants.{MmEst, Term, ConnReq, NoChannel, Pres}
use Rattle.timer.specs.Timers.{number_of_any, is_on, any_on, with_timer}
use Rattle.transitions.specs.declared.Send.{Send}
use Rattle.transitions.specs.declared.Send.TheVariants.{Nothing, ImmediateSetup, Setup, TerminationRequest}
use Rattle.transitions.specs.declared.Stores.{Stores}
use Rattle.transitions.specs.declared.Memory.{Memory}
use Rattle.transitions.specs.declared.Memory.TheVariants.{Keep, Remember, Forget}
use Rattle.transitions.specs.declared.Note.{Note}
use Rattle.transitions.specs.declared.Taken.{Taken}
use Rattle.transitions.specs.declared.Decision.{Decision}
use Rattle.transitions.specs.declared.Decision.TheVariants.{Take, NoStep, Ignore, Report, TellStatus, SetParameters}

-- ---- what a row is made of

-- Its event: one of a number, or a message of a type.
pub data Occasion : Type 0 where
  event : ℕ → Occasion
  message : ℕ → Occasion

-- What it asks of the context: nothing, ORIG true, that a timer runs, or that a termination request is pending.
pub data Asked : Type 0 where
  nothing : Asked
  ORIG : Asked
  running : Option Timer → Asked
  pending : Asked

-- Where it holds: a state, and what is asked there.
abbrev pub Place : Type 0
Place = State × Asked

-- Its next state: a fixed one, the same, or back to the one that is remembered.
pub data Next : Type 0 where
  to : State → Next
  stay : Next
  back : Next

-- Its actions: a sum, or CONNECT's, "32 if in U1 with T_MM-est, else 0".
pub data Actions : Type 0 where
  act : ℕ → Actions
  implicit : Actions

-- What it brings about beside them.
pub data Effect : Type 0 where
  send : Send → Effect
  stop : Option Timer → Effect
  set : Option Timer → Effect
  set_unless_running : Timer → Effect
  store_value-and-reference : Effect
  store_its_reference : Effect
  store_its_reference-and_originator : Effect
  mind : Memory → Effect
  note : Note → Effect

pub data Row : Type 0 where
  row : (places : List Place) (occasion : Occasion) (next : Next) (actions : Actions) (effects : List Effect) → Row

-- Each of these states, with nothing asked.
abbrev pub each : List State → List Place
each [] = []
each (s ∷ more) = (s, nothing) ∷ each more

abbrev pub U0p-U1-with-T-MM-est : List Place
U0p-U1-with-T-MM-est = (U0p, nothing) ∷ (U1, running (Some MmEst)) ∷ []

-- Each of these states, where ORIG is true, and where a termination request is pending.
abbrev pub where_orig : List State → List Place
where_orig [] = []
where_orig (s ∷ more) = (s, ORIG) ∷ where_orig more

abbrev pub where_pending : List State → List Place
where_pending [] = []
where_pending (s ∷ more) = (s, pending) ∷ where_pending more

-- ---- what differs between the tables

-- In the first a terminate request remembers nothing, and TERMINATION REJECT leaves the radio in U5. From the second on the request remembers the state that it is
-- asked from, and TERMINATION REJECT leads back there; outside U5 nothing is remembered. (In a group call the request is pending first, and remembers where it is sent.)
abbrev pub asking : Table → Memory
asking First = Keep
asking Second = Remember
asking Third = Remember
asking Group = Keep

abbrev pub rejected : Table → Next
rejected First = to U5
rejected Second = back
rejected Third = back
rejected Group = back

abbrev pub rejecting : Table → Memory
rejecting First = Keep
rejecting Second = Forget
rejecting Third = Forget
rejecting Group = Forget

-- In the first two an invitation waits in U3 with no timer. In the third T_pres runs there: "The standard allows a timer there: at expiry the context is cleared and
-- U0 entered, with action 0." So event 10 sets it, 3 stops it, and 19, its expiry, has a row where it runs; elsewhere, and in the first two, 19 has none.
abbrev pub inviting : Table → Option Timer
inviting First = None
inviting Second = None
inviting Third = Some Pres
inviting Group = None

-- A group call has sub-states of U2 in the place of U2 and U6: CONNECT leads to U2sl, since it comes over a link of its own, and group receive mode to U2r. CONNECT says there
-- whether we are the originator.
abbrev pub connected : Protocol → State
connected Protocol.Broadcast = U2
connected Protocol.Group = U2sl

abbrev pub connecting : Protocol → Effect
connecting Protocol.Broadcast = store_its_reference
connecting Protocol.Group = store_its_reference-and_originator

abbrev pub receiving : Protocol → State
receiving Protocol.Broadcast = U6
receiving Protocol.Group = U2r

abbrev pub all_but_u0 : Protocol → List State
all_but_u0 Protocol.Broadcast = U0p ∷ U1 ∷ U2 ∷ U3 ∷ U4 ∷ U5 ∷ U6 ∷ []
all_but_u0 Protocol.Group = U0p ∷ U1 ∷ (sub_states ++ (U3 ∷ U4 ∷ U5 ∷ []))

-- All but U0, U0.p and U1.
abbrev pub taken-part : Protocol → List State
taken-part Protocol.Broadcast = U2 ∷ U3 ∷ U4 ∷ U5 ∷ U6 ∷ []
taken-part Protocol.Group = sub_states ++ (U3 ∷ U4 ∷ U5 ∷ [])

-- A group call "remembers which side chose its transaction value (events 1 and 2 ours, 10 the cell's)".
abbrev pub choosing : Protocol → Note → Note
choosing Protocol.Broadcast n = Note.Nothing
choosing Protocol.Group n = n

-- ---- the rows: each protocol's own, and those of document 01 that both have, with what differs marked

-- GSM 04.69: in U6 the channel comes and goes; a termination is asked for where ORIG is true.
abbrev pub broadcast_rows : Table → List Row
broadcast_rows table =
    row (each (U6 ∷ [])) (event 12) (to U6) (act 1) (set_unless_running NoChannel ∷ []) ∷
    row (each (U6 ∷ [])) (event 13) (to U6) (act 1) (stop (Some NoChannel) ∷ []) ∷
    row ((U6, running (Some NoChannel)) ∷ []) (event 17) (to U0) (act (1 + 8)) [] ∷
    row ((U1, ORIG) ∷ (U2, ORIG) ∷ []) (event 4) (to U5) (act 0) (send TerminationRequest ∷ stop (Some MmEst) ∷ set (Some Term) ∷ mind (asking table) ∷ []) ∷
    []

-- 24.068. Actions as below, and 64: ask RR to enter group transmit mode. What becomes pending is sent "as soon as COMM = T": at once, where COMM is true (`call/specs/Talk: flushed`).
abbrev pub group_rows : List Row
group_rows =
    -- 6.2.3: the mode that RR enters when the call is joined.
    row (each (U4 ∷ [])) (event 34) (to U2sr) (act 1) (stop (Some ConnReq) ∷ []) ∷
    row (each (U4 ∷ [])) (event 35) (to U2sl) (act 1) (stop (Some ConnReq) ∷ []) ∷
    -- 6.3.1.1: "enters on request of higher layers sub-state U2wr and asks RR to enter RR receive mode", "U2ws and asks RR to enter group transmit mode".
    row (each (U2sl ∷ U2sr ∷ [])) (event 32) (to U2wr) (act 4) [] ∷
    row (each (U2wr ∷ U2r ∷ [])) (event 33) (to U2ws) (act 64) [] ∷
    -- 6.3.1.1, table 6.2: the sub-state that belongs to the mode which RR enters: idle, group receive, group transmit, dedicated. T_no channel runs in U2nc.
    row ((U2nc, running (Some NoChannel)) ∷ []) (event 17) (to U0) (act (1 + 8)) [] ∷
    row (each sub_states) (event 12) (to U2nc) (act 0) (set_unless_running NoChannel ∷ []) ∷
    row (each sub_states) (event 11) (to U2r) (act 0) (stop (Some NoChannel) ∷ []) ∷
    row (each sub_states) (event 34) (to U2sr) (act 0) (stop (Some NoChannel) ∷ []) ∷
    row (each sub_states) (event 35) (to U2sl) (act 0) (stop (Some NoChannel) ∷ []) ∷
    -- 6.4.1: a termination is asked for where ORIG is true, and is pending; "If the MS is in sub-state U2r, it shall enter sub-state U2ws and ask RR to enter group transmit mode".
    row ((U2r, ORIG) ∷ []) (event 4) (to U2ws) (act 64) (note Note.TerminationPends ∷ []) ∷
    row (where_orig (U1 ∷ U2sl ∷ U2wr ∷ U2ws ∷ U2sr ∷ U2nc ∷ [])) (event 4) stay (act 0) (note Note.TerminationPends ∷ []) ∷
    -- "While the request is pending, the request may be deleted by higher layers."
    row (where_pending (U1 ∷ sub_states)) (event 36) stay (act 0) (note Note.TerminationDropped ∷ []) ∷
    -- 6.5.1.1: the response is pending, likewise.
    row (each (U2r ∷ [])) (message GET-STATUS) (to U2ws) (act 64) (note Note.StatusPends ∷ []) ∷
    row (each (U0p ∷ U1 ∷ U2sl ∷ U2wr ∷ U2ws ∷ U2sr ∷ U2nc ∷ U3 ∷ U4 ∷ U5 ∷ [])) (message GET-STATUS) stay (act 0) (note Note.StatusPends ∷ []) ∷
    []

abbrev pub own_rows : Protocol → Table → List Row
own_rows Protocol.Broadcast table = broadcast_rows table
own_rows Protocol.Group table = group_rows

-- Actions: 1 inform higher layers, 2 request an MM connection, 4 request group receive mode, 8 abort, 16 release,
-- 32 tell lower layers that the MM connection exists implicitly. "Events 1, 2 and 10 carry a transaction value and a reference, stored when taken."
abbrev pub shared_rows : Protocol → Table → List Row
shared_rows p table =
    row (each (U0 ∷ [])) (event 1) (to U0p) (act 2) (set (Some MmEst) ∷ store_value-and-reference ∷ note (choosing p Note.WeChose) ∷ []) ∷
    row (each (U0 ∷ [])) (event 2) (to U1) (act 0) (send ImmediateSetup ∷ set (Some MmEst) ∷ store_value-and-reference ∷ note (choosing p Note.WeChose) ∷ []) ∷
    row (each (U0p ∷ [])) (event 6) (to U1) (act 0) (send Setup ∷ stop (Some MmEst) ∷ []) ∷
    row U0p-U1-with-T-MM-est (event 7) (to U0) (act 0) [] ∷
    row U0p-U1-with-T-MM-est (event 14) (to U0) (act 8) [] ∷
    row (each (U0p ∷ U1 ∷ [])) (event 8) (to U0) (act 8) [] ∷
    row (each (U0p ∷ U1 ∷ [])) (message CONNECT) (to (connected p)) implicit (connecting p ∷ stop (Some MmEst) ∷ []) ∷
    row (each (U0 ∷ [])) (event 10) (to U3) (act 1) (set (inviting table) ∷ store_value-and-reference ∷ note (choosing p Note.CellChose) ∷ []) ∷
    row (each (U3 ∷ [])) (event 3) (to U4) (act 4) (stop (inviting table) ∷ set (Some ConnReq) ∷ []) ∷
    row ((U3, running (inviting table)) ∷ []) (event 19) (to U0) (act 0) [] ∷
    row (each (U4 ∷ [])) (event 11) (to (receiving p)) (act 1) (stop (Some ConnReq) ∷ []) ∷
    row (each (U4 ∷ [])) (event 16) (to U0) (act (1 + 8)) [] ∷
    row (each (U5 ∷ [])) (message TERMINATION-REJECT) (rejected table) (act 1) (stop (Some Term) ∷ mind (rejecting table) ∷ []) ∷
    row ((U5, running (Some Term)) ∷ []) (event 15) (to U0) (act (1 + 8)) [] ∷
    row (each (all_but_u0 p)) (message TERMINATION) (to U0) (act (1 + 16)) [] ∷
    row (each (all_but_u0 p)) (event 5) (to U0) (act 16) [] ∷
    row (each (all_but_u0 p)) (event 9) (to U0) (act (1 + 8)) [] ∷
    row (each (taken-part p)) (event 8) (to U0) (act (1 + 8)) [] ∷
    []

abbrev pub rows_of : Protocol → Table → List Row
rows_of p table = own_rows p table ++ shared_rows p table

unfoldable pub step_table : Table → List Row
step_table table = rows_of (protocol_of table) table

-- ---- what a row says in a context

abbrev pub met : Asked → Context → Bool
met nothing x = true
met ORIG x = x.parameters.orig
met (running timer) x = any_on timer x.timers
met pending x = x.talk.termination

-- The next state, where something or nothing is remembered.
abbrev pub next_state : State → Remembered → Next → State
next_state s r (to next) = next
next_state s r stay = s
next_state s r back = returning r s

abbrev pub actions_in : State → Timers → Actions → ℕ
actions_in s t (act n) = n
actions_in s t implicit = cond (same s U1 && is_on MmEst t) 32 0

-- What an effect adds, where these timers run; no row has two of a kind.
abbrev pub adding : Timers → Effect → Taken → Taken
adding t (send m) d = record { next = d.next; actions = d.actions; sends = m; stops = d.stops; sets = d.sets; stores = d.stores; memory = d.memory; note = d.note }
adding t (stop k) d = record { next = d.next; actions = d.actions; sends = d.sends; stops = k; sets = d.sets; stores = d.stores; memory = d.memory; note = d.note }
adding t (set k) d = record { next = d.next; actions = d.actions; sends = d.sends; stops = d.stops; sets = k; stores = d.stores; memory = d.memory; note = d.note }
adding t (set_unless_running k) d = record { next = d.next; actions = d.actions; sends = d.sends; stops = d.stops; sets = cond (is_on k t) None (Some k); stores = d.stores; memory = d.memory; note = d.note }
adding t store_value-and-reference d = record { next = d.next; actions = d.actions; sends = d.sends; stops = d.stops; sets = d.sets; stores = Stores.ValueAndReference; memory = d.memory; note = d.note }
adding t store_its_reference d = record { next = d.next; actions = d.actions; sends = d.sends; stops = d.stops; sets = d.sets; stores = Stores.ItsReference; memory = d.memory; note = d.note }
adding t store_its_reference-and_originator d = record { next = d.next; actions = d.actions; sends = d.sends; stops = d.stops; sets = d.sets; stores = Stores.ItsReferenceAndOriginator; memory = d.memory; note = d.note }
adding t (mind m) d = record { next = d.next; actions = d.actions; sends = d.sends; stops = d.stops; sets = d.sets; stores = d.stores; memory = m; note = d.note }
adding t (note n) d = record { next = d.next; actions = d.actions; sends = d.sends; stops = d.stops; sets = d.sets; stores = d.stores; memory = d.memory; note = n }

abbrev pub adding_all : Timers → List Effect → Taken → Taken
adding_all t [] d = d
adding_all t (e ∷ more) d = adding t e (adding_all t more d)

-- What is taken by a row, in a state where these timers run and this is remembered.
abbrev pub taken : State → Timers → Remembered → Next → Actions → List Effect → Taken
taken s t r next actions effects =
    adding_all t effects
    (record {
      next = next_state s r next;
      actions = actions_in s t actions;
      sends = Nothing;
      stops = None;
      sets = None;
      stores = Stores.Nothing;
      memory = Keep;
      note = Note.Nothing;
    })

-- The timers afterwards: one is stopped, one is set.
abbrev pub timers_after : Taken → Timers → Timers
timers_after d t = with_timer d.sets true (with_timer d.stops false t)

-- What is remembered afterwards, where this state is left.
abbrev pub remembered_after : Memory → State → Remembered → Remembered
remembered_after Keep here r = r
remembered_after Remember here r = remembering here
remembered_after Forget here r = Remembered.Nothing

-- A row in the state `s`: what it takes if what it asks is so, and else `unmet`; `more` where it has no such state.
abbrev pub in_place : {A : Type 0} → State → Context → List Place → (takes unmet : Decision) → (Decision → A) → A → A
in_place s x [] takes unmet here more = more
in_place s x (p ∷ ps) takes unmet here more = cond (same s p.0) (here (cond (met p.1 x) takes unmet)) (in_place s x ps takes unmet here more)

-- ---- what a table says

-- The rows of a state, by event number: an event whose row asks for what is not so has no step.
abbrev pub events_in : State → Context → List Row → List (ℕ × Decision)
events_in s x [] = []
events_in s x (row places (event n) next actions effects ∷ more) =
    in_place s x places (Take (taken s x.timers x.remembered next actions effects)) NoStep (λ d. (n, d) ∷ events_in s x more) (events_in s x more)
events_in s x (row places (message code) next actions effects ∷ more) = events_in s x more

-- The rows of a state, by message type: a message whose row asks for what is not so is not compatible with the state, as one without a row.
abbrev pub messages_in : State → Context → List Row → List (ℕ × Decision)
messages_in s x [] = []
messages_in s x (row places (event n) next actions effects ∷ more) = messages_in s x more
messages_in s x (row places (message code) next actions effects ∷ more) =
    in_place s x places (Take (taken s x.timers x.remembered next actions effects)) (Report 98) (λ d. (code, d) ∷ messages_in s x more) (messages_in s x more)

-- The two messages that have a sentence of their own, in any state but U0.
abbrev pub sentences : List (ℕ × Decision)
sentences = (GET-STATUS, TellStatus) ∷ (SET-PARAMETER, SetParameters) ∷ []

-- "Received messages", rule 2: a type with no row or sentence above in this state, or one the MS sends, is not compatible with the state: 98.
abbrev pub incompatible : List (ℕ × Decision)
incompatible =
    (IMMEDIATE-SETUP, Report 98) ∷
    (SETUP, Report 98) ∷
    (CONNECT, Report 98) ∷
    (TERMINATION, Report 98) ∷
    (TERMINATION-REQUEST, Report 98) ∷
    (TERMINATION-REJECT, Report 98) ∷
    (STATUS, Report 98) ∷
    (GET-STATUS, Report 98) ∷
    (SET-PARAMETER, Report 98) ∷
    []

abbrev pub types_in : List Row → State → Context → List (ℕ × Decision)
types_in table s x = messages_in s x table ++ (sentences ++ incompatible)

-- Rules 1 and 2: in U0 every message is ignored; elsewhere an unknown type is reported with 97.
unfoldable pub heard_in : List Row → State → Context → ℕ → Decision
heard_in table s x code = cond (same s U0) Ignore (rows code (Report 97) (types_in table s x))

-- Every other event is answer 3.
unfoldable pub happened_in : List Row → State → Context → ℕ → Decision
happened_in table s x number = rows number NoStep (events_in s x table)

-- Event 18 is a message received.
unfoldable pub decided_in : List Row → State → Context → ℕ → ℕ → Decision
decided_in table s x number code = cond (eqb number 18) (heard_in table s x code) (happened_in table s x number)

unfoldable pub decided_by : List Row → Context → ℕ → ℕ → Decision
decided_by table x number code = decided_in table x.state x number code

-- By a step table's rows.
abbrev pub decided_of : Table → Context → ℕ → ℕ → Decision
decided_of table = decided_by (step_table table)

-- The number of the timer that is set by what is decided, 0 for none.
abbrev pub set_by : Decision → ℕ
set_by (Take d) = number_of_any d.sets
set_by NoStep = 0
set_by Ignore = 0
set_by (Report cause) = 0
set_by TellStatus = 0
set_by SetParameters = 0
