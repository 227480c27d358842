-- GSM 04.69, 9.4.3, table 9.4: causes. Any other value is an unspecific cause.
use Rattle.std.specs.Prelude.{ℕ, ◌%◌, List, [], ◌∷◌, cond, ◌&&◌, leb, ltb}
use Rattle.octets.specs.Rows.{rows}
use Rattle.causes.specs.declared.Cause.{Cause}
use Rattle.causes.specs.declared.Cause.TheVariants.{
  IllegalMs,
  ImeiNotAccepted,
  IllegalMe,
  ServiceNotAuthorized,
  ApplicationNotSupported,
  RrConnectionAborted,
  NormalCallClearing,
  NetworkFailure,
  Busy,
  Congestion,
  UserNotOriginator,
  NetworkWantsToMaintainCall,
  ResponseToGetStatus,
  ServiceOptionNotSupported,
  ServiceOptionNotSubscribed,
  ServiceOptionOutOfOrder,
  CallCannotBeIdentified,
  RetryUponNewCell,
  InvalidTransactionIdentifier,
  SemanticallyIncorrect,
  InvalidMandatoryInformation,
  TypeNonExistent,
  TypeNotCompatible,
  ElementNonExistent,
  ProtocolError,
  Unspecific,
}

abbrev pub causes : List (ℕ × Cause)
causes =
    (3, IllegalMs) ∷  -- Illegal MS
    (5, ImeiNotAccepted) ∷  -- IMEI not accepted
    (6, IllegalMe) ∷  -- Illegal ME
    (8, ServiceNotAuthorized) ∷  -- Service not authorized
    (9, ApplicationNotSupported) ∷  -- Application not supported on the protocol
    (10, RrConnectionAborted) ∷  -- RR connection aborted
    (16, NormalCallClearing) ∷  -- Normal call clearing
    (17, NetworkFailure) ∷  -- Network failure
    (20, Busy) ∷  -- Busy
    (22, Congestion) ∷  -- Congestion
    (23, UserNotOriginator) ∷  -- User not originator of call
    (24, NetworkWantsToMaintainCall) ∷  -- Network wants to maintain call
    (30, ResponseToGetStatus) ∷  -- Response to GET STATUS
    (32, ServiceOptionNotSupported) ∷  -- Service option not supported
    (33, ServiceOptionNotSubscribed) ∷  -- Requested service option not subscribed
    (34, ServiceOptionOutOfOrder) ∷  -- Service option temporarily out of order
    (38, CallCannotBeIdentified) ∷  -- Call cannot be identified
    (81, InvalidTransactionIdentifier) ∷  -- Invalid transaction identifier value
    (95, SemanticallyIncorrect) ∷  -- Semantically incorrect message
    (96, InvalidMandatoryInformation) ∷  -- Invalid mandatory information
    (97, TypeNonExistent) ∷  -- Message type non-existent or not implemented
    (98, TypeNotCompatible) ∷  -- Message type not compatible with the protocol state
    (99, ElementNonExistent) ∷  -- Information element non-existent or not implemented
    (100, TypeNotCompatible) ∷  -- Message type not compatible with the protocol state
    (112, ProtocolError) ∷  -- Protocol error, unspecified
    []

-- 48 to 63: retry upon entry into a new cell. Any other value without a row: unspecific.
unfoldable pub retry_or_unspecific : ℕ → Cause
retry_or_unspecific number = cond (leb 48 number && leb number 63) RetryUponNewCell Unspecific

unfoldable pub cause_of : ℕ → Cause
cause_of number = rows number (retry_or_unspecific number) causes

-- <cause> ::= 1 cause_part [diagnostics] | 0 cause_part <cause>. More than one cause part: an unspecific cause.
unfoldable pub cause_said : ℕ → Cause
cause_said first = cond (ltb first 128) Unspecific (cause_of (first % 128))
