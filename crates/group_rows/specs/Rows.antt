-- Rows of a group call that several states have, as the code puts them together. The table itself is `transitions/specs/Table: group_rows`.
use Rattle.std.specs.Prelude.{ℕ, List, [], ◌∷◌, ◌++◌, Bool, cond, Option, Some, None}
use Rattle.codes.specs.declared.state.State.{State}
use Rattle.codes.specs.declared.state.State.TheVariants.{U0, U5, U2sl, U2r, U2sr, U2nc}
use Rattle.codes.specs.MessageTypes.{TERMINATION, GET-STATUS}
use Rattle.timer.specs.declared.Timer.{Timer}
use Rattle.timer.specs.declared.Timer.TheVariants.{Term, NoChannel}
use Rattle.context.specs.declared.Context.{Context}
use Rattle.context.specs.declared.Remembered.{Remembered}
use Rattle.context.specs.Remembered.{returning}
use Rattle.transitions.specs.declared.Send.TheVariants as Send
use Rattle.transitions.specs.declared.Stores.TheVariants as Stores
use Rattle.transitions.specs.declared.Memory.TheVariants.{Keep, Forget}
use Rattle.transitions.specs.declared.Note.{Note}
use Rattle.transitions.specs.declared.Decision.{Decision}
use Rattle.transitions.specs.declared.Decision.TheVariants.{Take, NoStep}
use Rattle.transitions.specs.Table.{sentences, incompatible}

-- A row that sends nothing and keeps what is stored and remembered.
abbrev plain : State → ℕ → (stops sets : Option Timer) → Note → Decision
plain next actions stops sets n =
    Take (record { next = next; actions = actions; sends = Send.Nothing; stops = stops; sets = sets; stores = Stores.Nothing; memory = Keep; note = n })

-- It stays in its state and notes something.
abbrev pub staying : State → Note → Decision
staying s n = plain s 0 None None n

abbrev pub returned_to : Remembered → Decision
returned_to r =
    Take (record {
      next = returning r U5;
      actions = 1;
      sends = Send.Nothing;
      stops = Some Term;
      sets = None;
      stores = Stores.Nothing;
      memory = Forget;
      note = Note.Nothing;
    })

-- No channel, where T_no channel runs or not.
abbrev pub changing : Bool → Decision
changing runs = plain U2nc 0 None (cond runs None (Some NoChannel)) Note.Nothing

-- What every sub-state of U2 has of events; what a terminate request comes to is `asked`.
abbrev pub sub_state_rows : State → Decision → Context → List (ℕ × Decision)
sub_state_rows s asked x =
    (12, changing x.timers.nochannel) ∷
    (11, plain U2r 0 (Some NoChannel) None Note.Nothing) ∷
    (34, plain U2sr 0 (Some NoChannel) None Note.Nothing) ∷
    (35, plain U2sl 0 (Some NoChannel) None Note.Nothing) ∷
    (4, cond x.parameters.orig asked NoStep) ∷
    (36, cond x.talk.termination (staying s Note.TerminationDropped) NoStep) ∷
    (5, plain U0 16 None None Note.Nothing) ∷
    (9, plain U0 9 None None Note.Nothing) ∷
    (8, plain U0 9 None None Note.Nothing) ∷
    []

-- What a state has of messages in which GET STATUS stays and no other row is but that of TERMINATION.
abbrev pub staying_rows : State → List (ℕ × Decision)
staying_rows s = (GET-STATUS, staying s Note.StatusPends) ∷ (TERMINATION, plain U0 17 None None Note.Nothing) ∷ []

abbrev pub staying_types : State → List (ℕ × Decision)
staying_types s = staying_rows s ++ (sentences ++ incompatible)
