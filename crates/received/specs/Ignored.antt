-- When a message is ignored for which reason: the conditions, one by one. The rules name the reason where they stand (`due_of`, and `ignored` in the step); this
-- says the same the other way round, from the reason. `received/proofs/Ignored` proves that both agree.
use Rattle.std.specs.Prelude.{ℕ, ◌%◌, List, [], ◌∷◌, Bool, true, false, cond, not, ◌&&◌, ◌||◌, length, get_or, eqb, ltb, Result, Ok, Err}
use Rattle.codes.specs.declared.state.State.TheVariants.{U0}
use Rattle.codes.specs.Protocol.{discriminator}
use Rattle.codes.specs.Attributes.{parameters_of}
use Rattle.message.specs.declared.Reading.{Reading}
use Rattle.message.specs.declared.Unread.{Unread}
use Rattle.message.specs.Reading.{read_message}
use Rattle.version.specs.declared.Table.{Table}
use Rattle.version.specs.Version.{protocol_of}
use Rattle.context.specs.declared.Context.{Context}
use Rattle.context.specs.States.{same}
use Rattle.fitness.specs.Tables.{consistent}
use Rattle.transitions.specs.declared.Decision.{Decision}
use Rattle.transitions.specs.declared.Decision.TheVariants.{Take, NoStep, Ignore, Report, TellStatus, SetParameters}
use Rattle.transitions.specs.Table.{decided_of}
use Rattle.call.specs.declared.Reason.{Reason}
use Rattle.call.specs.declared.Reason.TheVariants.{NoCall, TooShort, OtherProtocol, TransactionMismatch, OtherIdentity, CommFalse}
use Rattle.call.specs.declared.Seen.{Seen}
use Rattle.call.specs.Events.{seen_message}
use Rattle.call.specs.Reasons.{reason_number}
use Rattle.received.specs.Received.{transaction_fits, type_cause, asked_of, must_name_us, is_other}

-- Rule 4: a message that can be read, in unacknowledged mode, with a mobile identity other than ours.
unfoldable pub names_other : List ℕ → ℕ → List ℕ → Result Reading Unread → Bool
names_other identity mode s (Ok read) = eqb mode 1 && is_other identity s (asked_of read.message).identity
names_other identity mode s (Err unread) = false

-- What the table decides is done by a STATUS: a report, GET STATUS, a SET PARAMETER whose values are inconsistent.
unfoldable pub tells_by : Table → Context → ℕ → Decision → Bool
tells_by table x attributes (Take taken) = false
tells_by table x attributes NoStep = false
tells_by table x attributes Ignore = false
tells_by table x attributes (Report cause) = true
tells_by table x attributes TellStatus = true
tells_by table x attributes SetParameters = not (consistent table x.state (parameters_of attributes))

-- A STATUS is due to a message: it can't be read (rule 3), is a CONNECT that doesn't name us (rule 5), or the table decides so.
unfoldable pub wants_status : Table → Context → Result Reading Unread → Bool
wants_status table x (Ok read) =
    let e : Seen = seen_message read.value read.message in (must_name_us (protocol_of table) && (asked_of read.message).disowns) || tells_by table x e.attributes (decided_of table x e.number e.code)
wants_status table x (Err unread) = true

-- The condition of each reason.
unfoldable pub holds_of : Table → List ℕ → Context → ℕ → List ℕ → Reason → Bool
holds_of table identity x mode s NoCall = same x.state U0
holds_of table identity x mode s TooShort = ltb (length s) 2
holds_of table identity x mode s OtherProtocol = not (eqb (get_or s 0 0 % 16) (discriminator (protocol_of table)))
holds_of table identity x mode s TransactionMismatch = not (transaction_fits x (get_or s 0 0))
holds_of table identity x mode s OtherIdentity = eqb (type_cause table x (get_or s 1 0)) 0 && names_other identity mode s (read_message (protocol_of table) s)
holds_of table identity x mode s CommFalse = not x.parameters.comm && (not (eqb (type_cause table x (get_or s 1 0)) 0) || wants_status table x (read_message (protocol_of table) s))

-- Where several hold, the order of the rules decides, with "no call" first.
abbrev pub in_order : List Reason
in_order = NoCall ∷ TooShort ∷ OtherProtocol ∷ TransactionMismatch ∷ OtherIdentity ∷ CommFalse ∷ []

-- The number of the first reason whose condition holds, and 0 where none does.
unfoldable pub first_in : (Reason → Bool) → List Reason → ℕ
first_in holds [] = 0
first_in holds (reason ∷ more) = cond (holds reason) (reason_number reason) (first_in holds more)
