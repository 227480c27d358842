-- Number to event and back: the event of a number has this number and carries what it was given, every number from 1 to 19 but 18 and from 32 to 36 has one and no other,
-- and every event but a message received is the event of its number.
use Prim.Native.Nat.{ℕ, suc, ◌+◌, ◌≤◌, ◌<◌}
use mathlib.Core.Path.{◌≡◌, refl, sym, ◌∙◌}
use mathlib.Core.List.{List, [], ◌∷◌, ◌++◌}
use mathlib.Core.Bool.{false, cond, ◌||◌}
use native.Mathlib.Omega.{arith}
use lib.Dec.{eqb}
use lib.ListN.{length}
use Rattle.octets.proofs.Rows.{Absent, other, at_rows}
use Rattle.octets.specs.declared.Reference.{Reference}
use Rattle.message.specs.declared.Message.{Message}
use Rattle.message.specs.declared.Message.TheVariants.{
  Connect,
  GetStatus,
  ImmediateSetup,
  SetParameter,
  Setup,
  Status,
  Termination,
  TerminationReject,
  TerminationRequest,
}
use Rattle.call.specs.declared.Event.{Event}
use Rattle.call.specs.Events.{bare, carrying, seen_message, seen_of}
use Rattle.std.specs.Prelude.{Option, Some, None}
use Rattle.radio.specs.Step.{call_events, talk_events, events, event_of}

-- ---- rows of a table

-- Rows that are numbered one after the other from `k` on have these numbers and no others.
abbrev Numbered : {A : Type 0} → ℕ → List (ℕ × A) → Type 0
Numbered k [] = Unit {0}
Numbered k (r ∷ rs) = (r.0 ≡ k) × Numbered (suc k) rs

step-on : (k n m : ℕ) → m ≡ k → k ≤ n → (n ≡ m → ⊥) → suc k ≤ n
step-on k n m e l u = omega arith

beyond : {A : Type 0} (k n : ℕ) (rs : List (ℕ × A)) → Numbered k rs → k ≤ n → Absent n rs → k + length rs ≤ n
beyond k n [] m l a = omega arith
beyond k n (r ∷ rs) m l a =
    let b : suc k + length rs ≤ n = beyond (suc k) n rs m.1 (step-on k n r.0 m.0 l a.0) a.1 in
    omega arith

outside : {A : Type 0} (k n : ℕ) (rs : List (ℕ × A)) → Numbered k rs → (k ≤ n → n < k + length rs → ⊥) → Absent n rs
outside k n [] m h = tt
outside k n (r ∷ rs) m h = (
  (λ e. let z : n ≡ k = e ∙ m.0 in h (omega arith) (omega arith)),
  outside (suc k) n rs m.1 (λ a b. h (omega arith) (omega arith)),
)

-- Two lists of rows, one behind the other.
apart : {A : Type 0} (n : ℕ) (rs qs : List (ℕ × A)) → Absent n (rs ++ qs) → Absent n rs × Absent n qs
apart n [] qs a = (tt, a)
apart n (r ∷ rs) qs a = let p = apart n rs qs a.1 in ((a.0, p.0), p.1)

together : {A : Type 0} (n : ℕ) (rs qs : List (ℕ × A)) → Absent n rs → Absent n qs → Absent n (rs ++ qs)
together n [] qs a b = b
together n (r ∷ rs) qs a b = (a.0, together n rs qs a.1 b)

numbered : (v : ℕ) (r : Reference) → Numbered 1 (call_events v r)
numbered v r = (refl, (refl, (refl, (refl, (refl, (refl, (refl, (refl, (refl, (refl, (refl, (refl, (refl, (refl, (refl, (refl, (refl, (refl, (refl, tt)))))))))))))))))))

talk_numbered : Numbered 32 talk_events
talk_numbered = (refl, (refl, (refl, (refl, (refl, tt)))))

-- ---- from the number to the event

-- The event of a number: seen, it is that number with the value and the reference where it carries them. No event: the number is 18, or neither 1 to 19 nor 32 to 36.
abbrev pub IsOf : ℕ → ℕ → Reference → Option Event → Type 0
IsOf n v r (Some event) = seen_of event ≡ cond (eqb n 1 || (eqb n 2 || eqb n 10)) (carrying n v r) (bare n)
IsOf n v r None = (n ≡ 18 → ⊥) → (1 ≤ n → n ≤ 19 → ⊥) × (32 ≤ n → n ≤ 36 → ⊥)

pub event_of_number : (n v : ℕ) (r : Reference) → IsOf n v r (event_of n v r)
unfolding event_of seen_of
event_of_number n v r =
    at_rows (IsOf n v r) n None (events v r) ((λ e. rw e), ((λ e. rw e), ((λ e. rw e), ((λ e. rw e), ((λ e. rw e), ((λ e. rw e), ((λ e. rw e), ((λ e. rw e), ((λ e. rw e), ((λ e. rw e), ((λ e. rw e), ((λ e. rw e), ((λ e. rw e), ((λ e. rw e), ((λ e. rw e), ((λ e. rw e), ((λ e. rw e), ((λ e h. absurd (h e)), ((λ e. rw e), ((λ e. rw e), ((λ e. rw e), ((λ e. rw e), ((λ e. rw e), ((λ e. rw e), tt))))))))))))))))))))))))
    (λ a h.
    let p = apart n (call_events v r) talk_events a in (
      (λ l m. let b : 20 ≤ n = beyond 1 n (call_events v r) (numbered v r) l p.0 in omega arith),
      (λ l m. let b : 37 ≤ n = beyond 32 n talk_events talk_numbered l p.1 in omega arith),
    ))

pub no_other-number : (n v : ℕ) (r : Reference) → (1 ≤ n → n ≤ 19 → ⊥) → (32 ≤ n → n ≤ 36 → ⊥) → event_of n v r ≡ None
unfolding event_of
no_other-number n v r h k =
    sym (other n None (events v r)
    (together n (call_events v r) talk_events (outside 1 n (call_events v r) (numbered v r) (λ a b. h a (omega arith))) (outside 32 n talk_events talk_numbered (λ a b. k a (omega arith)))))

pub no_event_18 : (v : ℕ) (r : Reference) → event_of 18 v r ≡ None
unfolding event_of
no_event_18 v r = refl

-- ---- and back

pub message-number : (value : ℕ) (m : Message) → (seen_message value m).number ≡ 18
unfolding seen_message
message-number value (Connect reference originator) = refl
message-number value (GetStatus identity) = refl
message-number value (ImmediateSetup key classmark identity reference) = refl
message-number value (SetParameter attributes) = refl
message-number value (Setup reference) = refl
message-number value (Status cause state attributes) = refl
message-number value (Termination cause) = refl
message-number value (TerminationReject cause) = refl
message-number value (TerminationRequest reference) = refl

pub number_of_event : (event : Event) → ((seen_of event).number ≡ 18 → ⊥) → event_of (seen_of event).number (seen_of event).value (seen_of event).reference ≡ Some event
unfolding event_of seen_of
number_of_event (Event.SetUp value reference) n = refl
number_of_event (Event.ImmediateSetUp value reference) n = refl
number_of_event Event.Join n = refl
number_of_event Event.Terminate n = refl
number_of_event Event.Release n = refl
number_of_event Event.Established n = refl
number_of_event Event.EstablishmentFailed n = refl
number_of_event Event.LinkFailure n = refl
number_of_event Event.AbortDetected n = refl
number_of_event (Event.Notified value reference) n = refl
number_of_event Event.ReceiveModeEntered n = refl
number_of_event Event.NoChannel n = refl
number_of_event Event.ChannelAvailable n = refl
number_of_event Event.MmEstExpired n = refl
number_of_event Event.TermExpired n = refl
number_of_event Event.ConnReqExpired n = refl
number_of_event Event.NoChannelExpired n = refl
number_of_event (Event.Received mode value m) n = elim (n (message-number value m)) [ ]
number_of_event Event.PresExpired n = refl
number_of_event Event.ReceiveModeRequested n = refl
number_of_event Event.TalkRequested n = refl
number_of_event Event.TransmitModeEntered n = refl
number_of_event Event.DedicatedModeEntered n = refl
number_of_event Event.TerminationDeleted n = refl

-- No event of a number is a message received.
abbrev pub NoMessage : Option Event → Type 0
NoMessage (Some event) = eqb (seen_of event).number 18 ≡ false
NoMessage None = Unit {0}

pub no_message : (n v : ℕ) (r : Reference) → NoMessage (event_of n v r)
unfolding event_of seen_of
no_message n v r =
    at_rows NoMessage n None (events v r) ((λ e. refl), ((λ e. refl), ((λ e. refl), ((λ e. refl), ((λ e. refl), ((λ e. refl), ((λ e. refl), ((λ e. refl), ((λ e. refl), ((λ e. refl), ((λ e. refl), ((λ e. refl), ((λ e. refl), ((λ e. refl), ((λ e. refl), ((λ e. refl), ((λ e. refl), ((λ e. tt), ((λ e. refl), ((λ e. refl), ((λ e. refl), ((λ e. refl), ((λ e. refl), ((λ e. refl), tt))))))))))))))))))))))))
    (λ a. tt)
