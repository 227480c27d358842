-- Any two outcomes that a public contract of this crate allows coincide.
use Prim.Native.Nat.{ℕ}
use mathlib.Core.Path.{◌≡◌}
use Rattle.octets.proofs.Coincide.{coincide}
use Rattle.codes.specs.declared.state.State.{State}
use Rattle.codes.specs.declared.attributes.Parameters.{Parameters}
use Rattle.context.specs.declared.Context.{Context}
use Rattle.context.specs.declared.Talk.{Talk}
use Rattle.transitions.specs.declared.Note.{Note}
use Rattle.transitions.specs.declared.Stores.{Stores}
use Rattle.call.specs.declared.Seen.{Seen}
use Rattle.call.specs.declared.Sent.{Sent}
use Rattle.call.specs.Talk.{noted, adopted, originating, awaiting_after, sent_in, flushed}

pub adopted_coincides : (x : Context) (seen : Seen) (a b : Context) → a ≡ adopted x seen → b ≡ adopted x seen → a ≡ b
adopted_coincides x seen a b = coincide (adopted x seen) a b

pub originating_coincides : (stores : Stores) (attributes : ℕ) (p a b : Parameters) → a ≡ originating stores attributes p → b ≡ originating stores attributes p → a ≡ b
originating_coincides stores attributes p a b = coincide (originating stores attributes p) a b

pub kept-after_coincides : (from next : State) (note : Note) (p : Parameters) (talk a b : Talk) → a ≡ awaiting_after from next p (noted note talk) → b ≡ awaiting_after from next p (noted note talk) → a ≡ b
kept-after_coincides from next note p talk a b = coincide (awaiting_after from next p (noted note talk)) a b

pub sent_in_coincides : (x : Context) (a b : Sent) → a ≡ sent_in x → b ≡ sent_in x → a ≡ b
sent_in_coincides x a b = coincide (sent_in x) a b

pub flushed_coincides : (x a b : Context) → a ≡ flushed x → b ≡ flushed x → a ≡ b
flushed_coincides x a b = coincide (flushed x) a b
