-- Why a message is ignored: the number beside answer 1. Where several apply, the order of "Received messages" decides, with "no call" first.
use Rattle.std.specs.Prelude.{ℕ}
use Rattle.call.specs.declared.Reason.{Reason}
use Rattle.call.specs.declared.Reason.TheVariants.{NoCall, TooShort, OtherProtocol, TransactionMismatch, OtherIdentity, CommFalse}

unfoldable pub reason_number : Reason → ℕ
reason_number NoCall = 1  -- no call
reason_number TooShort = 2  -- too short
reason_number OtherProtocol = 3  -- other protocol
reason_number TransactionMismatch = 4  -- transaction mismatch
reason_number OtherIdentity = 5  -- other identity
reason_number CommFalse = 6  -- COMM false
