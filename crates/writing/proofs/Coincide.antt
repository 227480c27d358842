-- Any two outcomes that a public contract of this crate allows coincide.
use Prim.Native.Nat.{ℕ}
use mathlib.Core.Path.{◌≡◌}
use mathlib.Core.List.{List}
use mathlib.Core.Bool.{Bool}
use Rattle.octets.proofs.Coincide.{coincide}
use Rattle.codes.specs.declared.protocol.Protocol.{Protocol}
use Rattle.message.specs.declared.Message.{Message}
use Rattle.std.specs.Prelude.{Result}
use Rattle.writing.specs.declared.Unwritten.{Unwritten}
use Rattle.writing.specs.Writing.{put_answer, put_leaves, write_answer, write_leaves}

-- What `write` answers, and every octet of the lent buffer.
pub write_coincides : (protocol : Protocol) (d s : List ℕ) (flag : Bool) (value : ℕ) (message : Message) (a b : Result ℕ Unwritten) (e f : List ℕ)
    → a ≡ write_answer protocol d s flag value message → b ≡ write_answer protocol d s flag value message
    → e ≡ write_leaves protocol d s flag value message → f ≡ write_leaves protocol d s flag value message → (a ≡ b) × (e ≡ f)
write_coincides protocol d s flag value message a b e f p q r t =
    (coincide (write_answer protocol d s flag value message) a b p q, coincide (write_leaves protocol d s flag value message) e f r t)

-- What `put` answers, and every octet of the lent part.
pub put_coincides : (protocol : Protocol) (d s : List ℕ) (flag : Bool) (value : ℕ) (message : Message) (a b : Result ℕ Unwritten) (e f : List ℕ)
    → a ≡ put_answer protocol d s flag value message → b ≡ put_answer protocol d s flag value message
    → e ≡ put_leaves protocol d s flag value message → f ≡ put_leaves protocol d s flag value message → (a ≡ b) × (e ≡ f)
put_coincides protocol d s flag value message a b e f p q r t =
    (coincide (put_answer protocol d s flag value message) a b p q, coincide (put_leaves protocol d s flag value message) e f r t)
