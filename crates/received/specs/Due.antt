-- Document 01, "Received messages, in this order": the six rules, as what is due to a message, and why where it is ignored. `call/specs/Due: settled` says what each comes to.
use Rattle.std.specs.Prelude.{ℕ, ◌%◌, List, cond, not, ◌&&◌, length, get_or, eqb, ltb, Result, Ok, Err}
use Rattle.codes.specs.declared.state.State.TheVariants.{U0}
use Rattle.codes.specs.declared.protocol.Protocol.{Protocol}
use Rattle.codes.specs.Protocol.{discriminator}
use Rattle.message.specs.declared.Message.{Message}
use Rattle.message.specs.declared.Reading.{Reading}
use Rattle.message.specs.declared.Unread.{Unread}
use Rattle.message.specs.Reading.{read_message}
use Rattle.version.specs.declared.Table.{Table}
use Rattle.version.specs.Version.{protocol_of}
use Rattle.context.specs.declared.Context.{Context}
use Rattle.context.specs.States.{same}
use Rattle.call.specs.declared.Due.{Due}
use Rattle.call.specs.declared.Due.TheVariants.{Steps, Ignored, Reported}
use Rattle.call.specs.declared.Event.TheVariants.{Received}
use Rattle.call.specs.declared.Reason.TheVariants.{NoCall, TooShort, OtherProtocol, TransactionMismatch, OtherIdentity}
use Rattle.received.specs.Received.{transaction_fits, type_cause, asked_of, must_name_us, is_other}

-- Rules 4 to 6, of a message that can be read.
unfoldable pub understood_due : Protocol → List ℕ → ℕ → List ℕ → ℕ → Message → Due
understood_due protocol identity mode s value message =
    -- 4. Received in unacknowledged mode with a mobile identity other than ours: ignored.
    cond (eqb mode 1 && is_other identity s (asked_of message).identity) (Ignored OtherIdentity)
    -- 5. CONNECT that doesn't name us as originator, where it must: reported as "semantically incorrect message", 95.
    (cond (must_name_us protocol && (asked_of message).disowns) (Reported 95)
    -- 6. The step.
    (Steps (Received mode value message)))

-- 3. Mandatory part wrong, or an unknown element whose identifier has bits 8 to 5 all zero: reported as "invalid mandatory information", 96.
-- (After rules 1 and 2 a message that can't be read has no other fault.)
unfoldable pub reading_due : (ℕ → Message → Due) → Result Reading Unread → Due
reading_due go (Ok read) = go read.value read.message
reading_due go (Err unread) = Reported 96

-- The six rules in their order.
unfoldable pub due_of : Table → List ℕ → Context → ℕ → List ℕ → Due
due_of table identity x mode s =
    -- 1. U0, under 2 octets, low four bits of octet 1 not 1 (the protocol's discriminator), or transaction mismatch: ignored.
    cond (same x.state U0) (Ignored NoCall)
    (cond (ltb (length s) 2) (Ignored TooShort)
    (cond (not (eqb (get_or s 0 0 % 16) (discriminator (protocol_of table)))) (Ignored OtherProtocol)
    (cond (not (transaction_fits x (get_or s 0 0))) (Ignored TransactionMismatch)
    -- 2. Unknown type: reported. A type with no row or sentence above in this state, or one the MS sends: reported as not compatible with the state.
    (cond (not (eqb (type_cause table x (get_or s 1 0)) 0)) (Reported (type_cause table x (get_or s 1 0)))
    -- 3. to 6.
    (reading_due (understood_due (protocol_of table) identity mode s) (read_message (protocol_of table) s))))))
