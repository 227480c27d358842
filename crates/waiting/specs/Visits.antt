-- The visits of a radio to a state, told by the entries of its log alone: the time of each, its event, and the state that it claims afterwards.
use Rattle.std.specs.Prelude.{ℕ, ◌+◌, ◌≡◌, List, [], ◌∷◌, ◌++◌}
use Rattle.codes.specs.declared.state.State.{State}
use Rattle.codes.specs.declared.state.State.TheVariants.{U0, U6}
use Rattle.context.specs.States.{number_of}
use Rattle.message.specs.declared.Own.{Own}
use Rattle.version.specs.declared.Table.{Table}
use Rattle.judge_laws.specs.Log.{Log, done, torn, entry, Entry}
use Rattle.verdict.specs.Table.{steps}

-- An entry as a reader of the log has it: milliseconds since the log began, the number of its event, and that of the state in which the radio is after it. Its answer
-- does not matter: entries of every answer count.
pub record Noted : Type 0 where
  pub time : ℕ
  pub event : ℕ
  pub state : ℕ

module _ (table : Table) (own : Own) (identity : List ℕ) where
  abbrev pub noted_at : ℕ → Entry (steps table own identity) → Noted
  noted_at time e = record { time = time; event = e.event.happened.number; state = e.claim.state }

  -- The entries of a log in order. An entry has the milliseconds since the one before; here they are added up, from those that have passed before.
  abbrev pub noted_from : ℕ → Log (Entry (steps table own identity)) → List Noted
  noted_from passed done = []
  noted_from passed torn = []
  noted_from passed (entry e rest) = noted_at (passed + e.delta) e ∷ noted_from (passed + e.delta) rest

-- What holds of each of some entries.
abbrev pub Each : (Noted → Type 0) → List Noted → Type 0
Each P [] = Unit {0}
Each P (n ∷ more) = P n × Each P more

-- After this entry the radio is in this state.
abbrev pub In : State → Noted → Type 0
In state n = n.state ≡ number_of state

-- The state after some entries, from a given one on.
abbrev pub state_after : ℕ → List Noted → ℕ
state_after state [] = state
state_after state (n ∷ more) = state_after n.state more

-- A visit to a state up to one of its entries. Somewhere in the log an entry enters the state from another (a log begins in U0); those that follow, if any, stay there; and
-- `next` is the entry behind them. Until then the radio is in the state, whether `next` leaves it or stays: so the entry that leaves counts, and silence behind the last
-- entry of a log does not.
pub record Visit (state : State) (log : List Noted) : Type 0 where
  pub before : List Noted
  pub enters : Noted
  pub stays : List Noted
  pub next : Noted
  pub behind : List Noted
  pub split : log ≡ before ++ (enters ∷ (stays ++ (next ∷ behind)))
  pub from_another : state_after (number_of U0) before ≡ number_of state → ⊥
  pub there : Each (In state) (enters ∷ stays)

-- A "no channel", event 12, of a visit to U6 that no "channel available", event 13, of the visit followed.
pub record NoChannel {log : List Noted} (visit : Visit U6 log) : Type 0 where
  pub earlier : List Noted
  pub lost : Noted
  pub later : List Noted
  pub split : visit.enters ∷ visit.stays ≡ earlier ++ (lost ∷ later)
  pub no_channel : lost.event ≡ 12
  pub none-available : Each (λ n. n.event ≡ 13 → ⊥) later
