-- Any two outcomes that an equation allows coincide. Each crate's Coincide file cites this once for each of its public functions.
use Prim.Native.Nat.{ℕ}
use mathlib.Core.Path.{◌≡◌, sym, ◌∙◌}
use mathlib.Core.List.{List}
use lib.Seq.{sets}
use Rattle.octets.specs.Little.{little}
use Rattle.octets.specs.Run.{part}

pub coincide : {A : Type 0} (x a b : A) → a ≡ x → b ≡ x → a ≡ b
coincide x a b p q = p ∙ sym q

pub copy_to_coincides : (d s : List ℕ) (at start count : ℕ) (e f : List ℕ) → e ≡ sets d at (part s start count) → f ≡ sets d at (part s start count)
    → e ≡ f
copy_to_coincides d s at start count e f = coincide (sets d at (part s start count)) e f

pub little_coincides : (number : ℕ) (a b : List ℕ) → a ≡ little number → b ≡ little number → a ≡ b
little_coincides number a b = coincide (little number) a b
