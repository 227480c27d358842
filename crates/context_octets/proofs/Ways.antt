-- What sixteen octets are, in the order of the code's tests.
use Prim.Native.Nat.{ℕ}
use mathlib.Core.Path.{◌≡◌}
use mathlib.Core.List.{List}
use mathlib.Core.Bool.{true, false}
use lib.ListN.{get_or}
use Rattle.codes.specs.declared.state.State.{State}
use Rattle.context.specs.declared.Context.{Context}
use Rattle.std.specs.Prelude.{Some, None}
use Rattle.context_octets.specs.Octets.{is_kept, state_at, with_state, context_of}

pub not-kept : (s : List ℕ) → is_kept s ≡ false → None ≡ context_of s
unfolding context_of
not-kept s e = rw e

pub no_state : (s : List ℕ) → is_kept s ≡ true → state_at (get_or s 0 0) ≡ None → None ≡ context_of s
unfolding context_of
no_state s e n = rw (e, n)

pub is_context : (s : List ℕ) (state : State) (x : Context) → is_kept s ≡ true → state_at (get_or s 0 0) ≡ Some state → x ≡ with_state s state
    → Some x ≡ context_of s
unfolding context_of
is_context s state x e n w = rw (e, n, w)
