-- Any two outcomes that a public contract of this crate allows coincide.
use Prim.Native.Nat.{ℕ}
use mathlib.Core.Path.{◌≡◌}
use Rattle.octets.proofs.Coincide.{coincide}
use Rattle.call.specs.declared.Event.{Event}
use Rattle.call.specs.declared.Reason.{Reason}
use Rattle.call.specs.declared.Seen.{Seen}
use Rattle.call.specs.Events.{seen_of}
use Rattle.call.specs.Reasons.{reason_number}

pub seen_event_coincides : (event : Event) (a b : Seen) → a ≡ seen_of event → b ≡ seen_of event → a ≡ b
seen_event_coincides event a b = coincide (seen_of event) a b

pub reason-number_coincides : (reason : Reason) (a b : ℕ) → a ≡ reason_number reason → b ≡ reason_number reason → a ≡ b
reason-number_coincides reason a b = coincide (reason_number reason) a b
