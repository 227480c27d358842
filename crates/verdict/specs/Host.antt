-- A host that makes steps from a cleared context on, and has each that is answered 0 to 3 recorded. Demand 3, last sentence.
use Rattle.std.specs.Prelude.{ℕ, ◌+◌, ◌≡◌, cond, List, [], ◌∷◌, Ok}
use Rattle.context.specs.declared.Context.{Context}
use Rattle.message.specs.declared.Own.{Own}
use Rattle.version.specs.declared.Table.{Table}
use Rattle.recorder.specs.Recording.{Records}
use Rattle.judge_laws.specs.Recorded.{Move, entry_of}
use Rattle.verdict.specs.Table.{steps, recordable}
use Rattle.verdict.specs.Entries.{meant_by}

module _ (table : Table) (own : Own) (identity : List ℕ) where
  -- From a buffer of which `used` bytes are used, to the buffer after all the steps, of which `total` are used. The recorder is called after each step
  -- answered 0 to 3, with the milliseconds since the one recorded before, and takes the entry.
  abbrev pub Recording : List (Move (steps table own identity)) → Context → (waited used : ℕ) (before after : List ℕ) (total : ℕ) → Type 0
  Recording [] x waited used before after total = (after ≡ before) × (total ≡ used)
  Recording (m ∷ ms) x waited used before after total =
      cond (recordable table own identity x m.event)
      ((between : List ℕ) × (so_far : ℕ)
      × Records table (meant_by table own identity (entry_of (steps table own identity) x waited m)) used before between (Ok so_far)
      × Recording ms ((steps table own identity).after x m.event) 0 so_far between after total)
      (Recording ms ((steps table own identity).after x m.event) (waited + m.wait) used before after total)
