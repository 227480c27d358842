-- What each kind's writer is held to: the same octets and the same test as in `Writing`, with the first octet given and the tests as the code makes them.
-- Nobody need believe this file: no public contract and no theorem of the promises goes by it, and `proofs/Fitting` shows that it comes to what `Writing` says. It
-- stands here because the contracts of private functions cite it, and a contract sees definitions alone.
use Rattle.std.specs.Prelude.{ℕ, ◌≡◌, List, ◌∷◌, Bool, true, cond, ◌&&◌, length, ltb, Option, Some, None, Result, Ok, Err}
use Rattle.std.proofs.lemmas.List.Edits.{sets}
use Rattle.codes.specs.declared.protocol.Protocol.{Protocol}
use Rattle.codes.specs.declared.protocol.Protocol.TheVariants.{Broadcast}
use Rattle.octets.specs.declared.Run.{Run}
use Rattle.writing.specs.declared.Unwritten.{Unwritten}
use Rattle.writing.specs.declared.Unwritten.TheVariants.{OutOfRange, ShortBuffer}
use Rattle.message.specs.declared.Message.{Message}
use Rattle.message.specs.declared.Message.TheVariants.{
  Connect,
  GetStatus,
  ImmediateSetup,
  SetParameter,
  Setup,
  Status,
  Termination,
  TerminationReject,
  TerminationRequest,
}
use Rattle.limits.specs.Limits.{run_fits, reject_fits, status_fits}
use Rattle.message.specs.Content.{Content, run_octets}
use Rattle.message.specs.Tables.{format_tv, type_of, table, drawn, counted, octets_of}

-- The message's octets, behind a first octet.
unfoldable pub body_octets : Protocol → ℕ → Content → List ℕ
body_octets protocol head content = head ∷ type_of content ∷ drawn (table protocol content)

-- A length octet and the octets of a run.
abbrev pub cause_octets : List ℕ → Run → List ℕ
cause_octets s cause = counted (run_octets s cause)

-- An optional half octet as its row in the table has it.
abbrev pub half_octets : ℕ → Option ℕ → List ℕ
half_octets identifier half = octets_of (format_tv identifier half)

-- The test of an identity that may be absent.
abbrev pub identity_fits : List ℕ → Option Run → Bool
identity_fits s None = true
identity_fits s (Some identity) = run_fits s identity 1 8

-- The tests of a message's fields.
abbrev pub body_fits : Protocol → List ℕ → Message → Bool
body_fits protocol s (Connect reference originator) = ltb originator 2
body_fits protocol s (GetStatus identity) = identity_fits s identity
body_fits protocol s (ImmediateSetup key classmark identity reference) = ltb key 8 && run_fits s identity 1 8
body_fits protocol s (SetParameter attributes) = ltb attributes 16
body_fits protocol s (Setup reference) = true
body_fits protocol s (Status cause state attributes) = status_fits s cause state attributes
body_fits protocol s (Termination cause) = run_fits s cause 1 247
body_fits protocol s (TerminationReject cause) = reject_fits protocol s cause
body_fits protocol s (TerminationRequest reference) = true

-- The same of the kinds that both protocols draw alike: those of either.
abbrev pub common_octets : ℕ → Content → List ℕ
common_octets head content = body_octets Broadcast head content

abbrev pub common_fits : List ℕ → Message → Bool
common_fits s message = body_fits Broadcast s message

-- Writing `octets` over the start of `d`, if they fit and there is room, answers `r` and leaves `e`.
pub record Writes (d octets : List ℕ) (fits : Bool) (r : Result ℕ Unwritten) (e : List ℕ) : Type 0 where
  pub answer : r ≡ cond fits (cond (ltb (length d) (length octets)) (Err ShortBuffer) (Ok (length octets))) (Err OutOfRange)
  pub after : e ≡ cond fits (cond (ltb (length d) (length octets)) d (sets d 0 octets)) d
