-- Any two outcomes that a public contract of this crate allows coincide: the count, and each octet of the lent buffer.
use Prim.Native.Nat.{ℕ}
use mathlib.Core.Path.{◌≡◌}
use mathlib.Core.List.{List}
use lib.ListN.{length}
use lib.Seq.{sets}
use Rattle.octets.proofs.Coincide.{coincide}
use Rattle.codes.specs.declared.protocol.Protocol.{Protocol}
use Rattle.context.specs.declared.Context.{Context}
use Rattle.call.specs.declared.Sent.{Sent}
use Rattle.call.specs.declared.Sending.{Sending}
use Rattle.message.specs.declared.Own.{Own}
use Rattle.reply.specs.Reply.{put_all}

module _ (protocol : Protocol) (d identity s : List ℕ) (own : Own) (x : Context) (sends : Sending) (k : Sent) where
  pub put_count_coincides : (a b : ℕ) → a ≡ length (put_all protocol (length d) own identity s x sends k) → b ≡ length (put_all protocol (length d) own identity s x sends k) → a ≡ b
  put_count_coincides a b = coincide (length (put_all protocol (length d) own identity s x sends k)) a b

  pub put_leaves_coincides : (e f : List ℕ) → e ≡ sets d 0 (put_all protocol (length d) own identity s x sends k) → f ≡ sets d 0 (put_all protocol (length d) own identity s x sends k)
      → e ≡ f
  put_leaves_coincides e f = coincide (sets d 0 (put_all protocol (length d) own identity s x sends k)) e f
