-- The numbers of the reasons: each its own, 1 to 6.
use Prim.Native.Nat.{ℕ, ◌≤◌}
use mathlib.Core.Path.{◌≡◌, refl, sym, ap, ◌∙◌}
use mathlib.Core.Bool.{cond}
use native.Mathlib.Omega.{arith}
use lib.Dec.{eqb}
use Rattle.call.specs.declared.Reason.{Reason}
use Rattle.call.specs.declared.Reason.TheVariants.{NoCall, TooShort, OtherProtocol, TransactionMismatch, OtherIdentity, CommFalse}
use Rattle.call.specs.Reasons.{reason_number}

abbrev reason_with : ℕ → Reason
reason_with n =
    cond (eqb n 1) NoCall (cond (eqb n 2) TooShort (cond (eqb n 3) OtherProtocol (cond (eqb n 4) TransactionMismatch (cond (eqb n 5) OtherIdentity CommFalse))))

with_number : (reason : Reason) → reason_with (reason_number reason) ≡ reason
unfolding reason_number
with_number NoCall = refl
with_number TooShort = refl
with_number OtherProtocol = refl
with_number TransactionMismatch = refl
with_number OtherIdentity = refl
with_number CommFalse = refl

-- Two reasons have two numbers,
pub same-reason : (a b : Reason) → reason_number a ≡ reason_number b → a ≡ b
same-reason a b e = sym (with_number a) ∙ ap reason_with e ∙ with_number b

-- and each is 1 to 6.
pub numbered : (reason : Reason) → (1 ≤ reason_number reason) × (reason_number reason ≤ 6)
unfolding reason_number
numbered NoCall = (omega arith, omega arith)
numbered TooShort = (omega arith, omega arith)
numbered OtherProtocol = (omega arith, omega arith)
numbered TransactionMismatch = (omega arith, omega arith)
numbered OtherIdentity = (omega arith, omega arith)
numbered CommFalse = (omega arith, omega arith)
