-- Laws of an output: what is put behind it, and what has no room.
use Prim.Native.Nat.{ℕ, ◌+◌, ◌-◌, ◌≤◌, ◌<◌}
use mathlib.Core.Path.{◌≡◌, refl, ap, ◌∙◌}
use mathlib.Core.List.{List}
use native.Mathlib.Omega.{arith}
use lib.ListN.{length, take}
use Rattle.octets.proofs.Stores.{over_start}
use lib.Seq.{sets, take-length}
use Rattle.octets.specs.Run.{part}
use borrow.Author.Tests.{le-leb, lt-leb}
use Rattle.text.specs.declared.output.Output.{Output}
use Rattle.text.specs.Output.{has_room, behind, put_leaves}

pub no_room : (b : List ℕ) (o : Output) (t : List ℕ) → length b < o.at + length t
    → (o ≡ behind b o t) × (b ≡ put_leaves b o t)
unfolding has_room behind put_leaves
no_room b o t h = (simp (lt-leb _ _ h), simp (lt-leb _ _ h))

pub is_put : (b e : List ℕ) (o : Output) (t : List ℕ) (n : ℕ) → n ≡ length t → o.at + n ≤ length b → e ≡ sets b o.at t
    → (record { at = o.at + n } ≡ behind b o t) × (e ≡ put_leaves b o t)
unfolding has_room behind put_leaves
is_put b e o t n q h s =
    let k : o.at + length t ≤ length b = omega arith in
    (simp (le-leb _ _ k, q), simp (le-leb _ _ k) s)

-- The same of a text that is copied whole.
pub is_copied : (b e : List ℕ) (o : Output) (t : List ℕ) → o.at + length t ≤ length b → e ≡ sets b o.at (part t 0 (length t))
    → (record { at = o.at + length t } ≡ behind b o t) × (e ≡ put_leaves b o t)
is_copied b e o t h s = is_put b e o t (length t) refl h (s ∙ ap (sets b o.at) (take-length t))

-- And of the first part of a buffer that a text was stored over.
pub as_put : (b e d x : List ℕ) (o r : Output) (t : List ℕ) (n : ℕ) → n ≡ length t → length t ≤ length d → x ≡ sets d 0 t
    → (r ≡ behind b o (take (n - 0) x)) × (e ≡ put_leaves b o (take (n - 0) x)) → (r ≡ behind b o t) × (e ≡ put_leaves b o t)
as_put b e d x o r t n q h s p =
    let z : n - 0 ≡ length t = omega arith in
    let g : take (n - 0) x ≡ t = rw (s, z) (over_start d t h) in
    rw g at p
