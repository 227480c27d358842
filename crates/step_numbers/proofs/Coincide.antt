-- Any two outcomes that a public contract of this crate allows coincide: the result and each octet that is lent. The public functions: `clear_context`, `take_step`.
use Prim.Native.Nat.{ℕ}
use mathlib.Core.Path.{◌≡◌}
use mathlib.Core.List.{List}
use lib.ListN.{length}
use lib.Seq.{sets}
use Rattle.octets.proofs.Coincide.{coincide}
use Rattle.context.specs.Context.{cleared}
use Rattle.context_octets.specs.Octets.{octets_of}
use Rattle.version.specs.declared.Table.{Table}
use Rattle.step_numbers.specs.declared.Occurrence.{Occurrence}
use Rattle.step_numbers.specs.declared.Step.{Step}
use Rattle.step_numbers.specs.Stepping.{Call, Comes, call_of}

pub clear_coincides : (a b : ℕ) (e f : List ℕ) → (a ≡ 0) × (e ≡ octets_of cleared) → (b ≡ 0) × (f ≡ octets_of cleared) → (a ≡ b) × (e ≡ f)
clear_coincides a b e f p q = (coincide 0 a b p.0 q.0, coincide (octets_of cleared) e f p.1 q.1)

pub step_coincides : (table : Table) (c s d m : List ℕ) (event : Occurrence) (a b : Step) (x y e f : List ℕ) → Comes (call_of table c s (length d) event m) d a x e
    → Comes (call_of table c s (length d) event m) d b y f → (a ≡ b) × (x ≡ y) × (e ≡ f)
step_coincides table c s d m event a b x y e f p q =
    let call : Call = call_of table c s (length d) event m in
    (coincide call.step a b p.0 q.0, coincide call.context x y p.1 q.1, coincide (sets d 0 call.reply) e f p.2 q.2)
