-- Laws of a packet: its three parts, one behind the other, are put behind an output as one.
use Prim.Native.Nat.{ℕ, ◌+◌, ◌≤◌, ◌<◌}
use mathlib.Core.Path.{◌≡◌, refl}
use mathlib.Core.List.{List, ◌++◌}
use native.Mathlib.Omega.{arith}
use lib.ListN.{length, length-append}
use lib.Seq.{sets, take-length}
use Rattle.octets.specs.Run.{part}
use Rattle.octets.proofs.Stores.{sets-append}
use Rattle.text.specs.declared.output.Output.{Output}
use Rattle.text.specs.Output.{behind, put_leaves}
use Rattle.text.proofs.Putting.{no_room, is_put}

-- A part that is all of it.
all_of : (x : List ℕ) (n : ℕ) → length x ≡ n → part x 0 n ≡ x
all_of x n h = rw (← h) (take-length x)

parts_length : (x y z : List ℕ) → length x ≡ 16 → length y ≡ 28 → 44 + length z ≡ length (x ++ (y ++ z))
parts_length x y z hx hy = simp length-append (omega arith)

pub three-fit-not : (b : List ℕ) (o : Output) (x y z : List ℕ) → length x ≡ 16 → length y ≡ 28 → length b < o.at + (44 + length z)
    → (o ≡ behind b o (x ++ (y ++ z))) × (b ≡ put_leaves b o (x ++ (y ++ z)))
three-fit-not b o x y z hx hy h =
    let k : 44 + length z ≡ length (x ++ (y ++ z)) = parts_length x y z hx hy in
    no_room b o (x ++ (y ++ z)) (omega arith)

three_stored : (b b1 b2 b3 : List ℕ) (at : ℕ) (x y z : List ℕ) → length x ≡ 16 → length y ≡ 28 → b1 ≡ sets b at (part x 0 16)
    → b2 ≡ sets b1 (at + 16) (part y 0 28) → b3 ≡ sets b2 (at + 44) (part z 0 (length z)) → b3 ≡ sets b at (x ++ (y ++ z))
three_stored b b1 b2 b3 at x y z hx hy p q r =
    let ax : at + 16 ≡ at + length x = omega arith in
    let ay : at + 44 ≡ (at + length x) + length y = omega arith in
    rw (r, q, p, all_of x 16 hx, all_of y 28 hy, take-length z, ax, ay, sets-append b at x (y ++ z), sets-append (sets b at x) (at + length x) y z) refl

pub three_put : (b b1 b2 b3 : List ℕ) (o : Output) (x y z : List ℕ) → length x ≡ 16 → length y ≡ 28 → o.at + (44 + length z) ≤ length b
    → b1 ≡ sets b o.at (part x 0 16) → b2 ≡ sets b1 (o.at + 16) (part y 0 28) → b3 ≡ sets b2 (o.at + 44) (part z 0 (length z))
    → (record { at = o.at + (44 + length z) } ≡ behind b o (x ++ (y ++ z))) × (b3 ≡ put_leaves b o (x ++ (y ++ z)))
three_put b b1 b2 b3 o x y z hx hy h p q r =
    is_put b b3 o (x ++ (y ++ z)) (44 + length z) (parts_length x y z hx hy) h (three_stored b b1 b2 b3 o.at x y z hx hy p q r)
