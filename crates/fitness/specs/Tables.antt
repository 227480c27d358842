-- Document 01, "The context": what each step table says of fitness, as data.
use Rattle.std.specs.Prelude.{List, [], ◌∷◌, Bool, ◌&&◌}
use Rattle.codes.specs.declared.state.State.{State}
use Rattle.codes.specs.declared.state.State.TheVariants.{U0, U0p, U1, U3, U4, U5, U6, U2sl, U2wr, U2r, U2ws, U2sr, U2nc}
use Rattle.codes.specs.declared.protocol.Protocol.{Protocol}
use Rattle.codes.specs.CallStates.{states_of}
use Rattle.codes.specs.declared.attributes.Parameters.{Parameters}
use Rattle.timer.specs.declared.Timer.TheVariants.{MmEst, Term, ConnReq, NoChannel, Pres}
use Rattle.timer.specs.declared.Timers.{Timers}
use Rattle.context.specs.declared.Context.{Context}
use Rattle.context.specs.declared.Talk.{Talk}
use Rattle.context.specs.States.{among}
use Rattle.version.specs.declared.Table.{Table}
use Rattle.version.specs.declared.Table.TheVariants.{First, Second, Third, Group}
use Rattle.version.specs.Version.{protocol_of}
use Rattle.context.specs.declared.Chooser.{Chooser}
use Rattle.context.specs.declared.Chooser.TheVariants.{Us, Cell}
use Rattle.fitness.specs.Fitness.{Fitness, Runs, always, optionally, never, ORIG, COMM, consistent_by, timers_fit_by, pending_fit_by, fit_by}

-- What differs: in the first table T_term runs in U5 optionally, and nothing is remembered anywhere. From the second on, "T_term now always runs in U5", and
-- the context remembers where the termination was asked from in U5, and "nothing is remembered outside U5". In the third the timer of an invitation "always runs in
-- U3"; "versions 1 and 2 keep their own "fit", with U3 untimed", and in a group call it has no timer either.
abbrev pub term_runs : Table → Runs
term_runs First = optionally
term_runs Second = always
term_runs Third = always
term_runs Group = always

abbrev pub invitation_runs : Table → Runs
invitation_runs First = never
invitation_runs Second = never
invitation_runs Third = always
invitation_runs Group = never

abbrev pub remembering_states : Table → List State
remembering_states First = []
remembering_states Second = U5 ∷ []
remembering_states Third = U5 ∷ []
remembering_states Group = U5 ∷ []

-- What a group call keeps, and a broadcast call does not. "\"fit\" ties it to us in U0.p and U1, to the cell in U3 and U4, and to neither in U0", where there is no row; in a
-- sub-state of U2 either side may have chosen the value. (U5 goes by the state that it remembers.)
abbrev pub sub_states : List State
sub_states = U2sl ∷ U2wr ∷ U2r ∷ U2ws ∷ U2sr ∷ U2nc ∷ []

abbrev either_in : List State → List (State × List Chooser)
either_in [] = []
either_in (s ∷ more) = (s, Us ∷ Cell ∷ []) ∷ either_in more

abbrev pub choosers_of : Protocol → List (State × List Chooser)
choosers_of Protocol.Broadcast = []
choosers_of Protocol.Group = (U0p, Us ∷ []) ∷ (U1, Us ∷ []) ∷ (U3, Cell ∷ []) ∷ (U4, Cell ∷ []) ∷ either_in sub_states

-- A termination request may be pending in U1 and in the sub-states of U2,
abbrev pub requesting_states : Protocol → List State
requesting_states Protocol.Broadcast = []
requesting_states Protocol.Group = U1 ∷ sub_states

-- a STATUS in all states but U0,
abbrev pub asked_states : Protocol → List State
asked_states Protocol.Broadcast = []
asked_states Protocol.Group = U0p ∷ U1 ∷ U3 ∷ U4 ∷ U5 ∷ sub_states

-- and a value may be awaited in the sub-states of U2.
abbrev pub awaiting_states : Protocol → List State
awaiting_states Protocol.Broadcast = []
awaiting_states Protocol.Group = sub_states

-- The table of timers, its last column; and 6.1.2.1.11, which says U6 in GSM 04.69, and U2nc and U2r in 24.068.
unfoldable pub fitness_of : Table → Fitness
fitness_of table = record {
  states = states_of (protocol_of table);
  timers =
      (MmEst, (U0p, always) ∷ (U1, optionally) ∷ []) ∷
      (Term, (U5, term_runs table) ∷ []) ∷
      (ConnReq, (U4, always) ∷ []) ∷
      (NoChannel, (U6, optionally) ∷ (U2nc, always) ∷ []) ∷
      (Pres, (U3, invitation_runs table) ∷ []) ∷
      [];
  wrong =
      (ORIG, U3 ∷ U4 ∷ U6 ∷ []) ∷
      (COMM, U0 ∷ U3 ∷ U4 ∷ U6 ∷ U2nc ∷ U2r ∷ []) ∷
      [];
  remembering = remembering_states table;
  choosers = choosers_of (protocol_of table);
  requesting = requesting_states (protocol_of table);
  asked = asked_states (protocol_of table);
  awaiting = awaiting_states (protocol_of table);
}

-- Consistent and fit, by a table.
abbrev pub consistent : Table → State → Parameters → Bool
consistent table s p = consistent_by (fitness_of table) s p

abbrev pub state_fits : Table → State → Parameters → Bool
state_fits table s p = among s (fitness_of table).states && consistent table s p

abbrev pub timers_fit : Table → State → Timers → Bool
timers_fit table s t = timers_fit_by (fitness_of table) s t

abbrev pub fit_of : Table → Context → Bool
fit_of table x = fit_by (fitness_of table) x

-- What is pending in a group call, by its table.
abbrev pub group_pending : State → Parameters → Talk → Bool
group_pending = pending_fit_by (fitness_of Group)
