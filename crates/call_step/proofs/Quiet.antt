-- Where nothing is pending, sending what was pending changes nothing.
use Prim.Native.Nat.{ℕ}
use mathlib.Core.Path.{◌≡◌, refl, sym}
use mathlib.Core.Bool.{Bool, true, false, ◌&&◌, ◌||◌}
use Rattle.octets.proofs.Choice.{never}
use Rattle.context.specs.declared.Context.{Context}
use Rattle.call.specs.declared.Settled.{Settled}
use Rattle.call.specs.declared.Sending.{Sending}
use Rattle.call.specs.Talk.{sent_in, unsent, flushed}
use Rattle.call.specs.Step.{took}

and-false : (b : Bool) → (b && false) ≡ false
and-false true = refl
and-false false = refl

and-true : (b : Bool) → (b && true) ≡ b
and-true true = refl
and-true false = refl

neither : (a b : Bool) → (a || b) ≡ false → (a ≡ false) × (b ≡ false)
neither true b e = never (sym e)
neither false b e = (refl, e)

module _ (x : Context) (quiet : (x.talk.termination || x.talk.status) ≡ false) where
  no_status : (x.parameters.comm && x.talk.status) ≡ false
  no_status = rw (neither x.talk.termination x.talk.status quiet).1 (and-false x.parameters.comm)

  no_request_lem : (x.parameters.comm && (x.parameters.orig && x.talk.termination)) ≡ false
  no_request_lem = rw ((neither x.talk.termination x.talk.status quiet).0, and-false x.parameters.orig) (and-false x.parameters.comm)

  still : flushed x ≡ x
  unfolding flushed sent_in
  still = rw (no_status, no_request_lem, and-true x.talk.status)

  nothing-sent : sent_in x ≡ unsent x
  unfolding sent_in
  nothing-sent = rw (no_status, no_request_lem)

  -- So the context is taken as it is.
  pub took_still : (actions : ℕ) (sends : Sending) (r : Settled) → r ≡ record { context = x; answer = 0; reason = 0; actions = actions; sends = sends; sent = unsent x } → r ≡ took x actions sends
  took_still actions sends r e = rw (still, nothing-sent) e
