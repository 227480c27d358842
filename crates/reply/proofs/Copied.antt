-- How long a STATUS is, and so how many octets of the message received an error STATUS copies.
use Prim.Native.Nat.{ℕ, ◌+◌, ◌≤◌, ◌<◌}
use mathlib.Core.Path.{◌≡◌, refl, sym, ap, ◌∙◌}
use mathlib.Core.List.{List, [], ◌∷◌}
use mathlib.Core.Bool.{Bool, true, false, cond, ◌&&◌, and-false}
use native.Mathlib.Omega.{arith}
use lib.Dec.{leb}
use lib.ListN.{length, length-append}
use lib.Seq.{take-length}
use borrow.Author.Tests.{le-leb, lt-leb, leb-true, leb-false}
use Rattle.octets.specs.Run.{part}
use Rattle.std.specs.Prelude.{Some}
use Rattle.message.specs.Content.{status}
use Rattle.message.specs.Tables.{table, written}
use Rattle.codes.specs.declared.protocol.Protocol.{Protocol}
use Rattle.context.specs.declared.Context.{Context}
use Rattle.reply.specs.Reply.{sent, status_of, cause_octet, copied, copy_count}

-- Head, type, length octet, cause, call state and state attributes.
pub telling-length : (protocol : Protocol) (x : Context) (cause : List ℕ) (state attributes : ℕ) → length (sent protocol x (status cause (Some state) (Some attributes))) ≡ 5 + length cause
unfolding sent written table
telling-length protocol x cause state attributes = simp length-append (omega arith)

pub status-length : (protocol : Protocol) (x : Context) (cause : List ℕ) → length (sent protocol x (status_of x cause)) ≡ 5 + length cause
unfolding status_of
status-length protocol x cause = telling-length protocol x cause _ _

-- The copy is made exactly if the message received has at most 245 octets.
pub copied_is : (protocol : Protocol) (x : Context) (cause : ℕ) (s : List ℕ) → copied protocol x cause s ≡ cond (leb (length s) 245) s []
unfolding copied
copied_is protocol x cause s = ap (λ (t : Bool). cond t s []) (go (leb (length s) 245) refl)
  where
    go : (t : Bool) → leb (length s) 245 ≡ t → leb (1 + length (cause_octet cause ∷ s)) 248 && leb (length (sent protocol x (status_of x (cause_octet cause ∷ s)))) 251 ≡ t
    go true e =
        let h : length s ≤ 245 = leb-true _ _ e in
        let l : length (sent protocol x (status_of x (cause_octet cause ∷ s))) ≡ 5 + length (cause_octet cause ∷ s) = status-length protocol x (cause_octet cause ∷ s) in
        rw (le-leb (1 + length (cause_octet cause ∷ s)) 248 (omega arith)) (le-leb (length (sent protocol x (status_of x (cause_octet cause ∷ s)))) 251 (omega arith))
    go false e =
        let h : 245 < length s = leb-false _ _ e in
        let l : length (sent protocol x (status_of x (cause_octet cause ∷ s))) ≡ 5 + length (cause_octet cause ∷ s) = status-length protocol x (cause_octet cause ∷ s) in
        rw (lt-leb (length (sent protocol x (status_of x (cause_octet cause ∷ s)))) 251 (omega arith)) (and-false (leb (1 + length (cause_octet cause ∷ s)) 248))

-- So the octets that are copied are the first so many.
pub copied-part : (protocol : Protocol) (x : Context) (cause : ℕ) (s : List ℕ) → part s 0 (copy_count (length s)) ≡ copied protocol x cause s
unfolding copy_count
copied-part protocol x cause s = go (leb (length s) 245) ∙ sym (copied_is protocol x cause s)
  where
    go : (t : Bool) → part s 0 (cond t (length s) 0) ≡ cond t s []
    go true = take-length s
    go false = refl
