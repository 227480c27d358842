-- Laws of a run of stores, `sets`: two runs one behind the other, a loop that copies, a store into a lent part.
use Prim.Native.Nat.{ℕ, suc, ◌+◌, ◌-◌, ◌≤◌, ◌<◌}
use mathlib.Core.Path.{◌≡◌, refl, sym, ap, ◌∙◌}
use mathlib.Core.List.{List, [], ◌∷◌, ◌++◌, append-nil, append_assoc}
use native.Mathlib.Omega.{arith}
use native.Mathlib.Nat.{zero-add}
use native.Mathlib.Numerals.{add-one, add-two, add-three}
use lib.ListN.{length, get_or, take, drop, set, length-drop, drop_of_length-le}
use lib.Seq.{sets, sets-eq, take_all, take-suc, take_at, get_or-drop, drop-drop, length-take-le}
use borrow.Rule.Slice.PartMut.{put_mid, post_of, mid_of}
use Rattle.octets.specs.Run.{part}

-- Two runs, one behind the other, are one.
pub sets-append : (l : List ℕ) (i : ℕ) (vs ws : List ℕ) → sets l i (vs ++ ws) ≡ sets (sets l i vs) (i + length vs) ws
sets-append l i [] ws = let h : i ≡ i + 0 = omega arith in ap (λ (k : ℕ). sets l k ws) h
sets-append l i (v ∷ vs) ws =
    let h : suc i + length vs ≡ i + suc (length vs) = omega arith in
    sets-append (set l i v) (suc i) vs ws ∙ ap (λ (k : ℕ). sets (sets (set l i v) (suc i) vs) k ws) h

-- The same, from the buffer's start, with what each run left named.
pub sets_then : (d e f xs ys : List ℕ) (n : ℕ) → length xs ≡ n → e ≡ sets d 0 xs → f ≡ sets e n ys → f ≡ sets d 0 (xs ++ ys)
sets_then d e f xs ys n l p q =
    let h : n ≡ 0 + length xs = omega arith in
    q ∙ ap (λ (x : List ℕ). sets x n ys) p ∙ ap (λ (k : ℕ). sets (sets d 0 xs) k ys) h ∙ sym (sets-append d 0 xs ys)

-- Four stores at adjoining places.
pub sets-four : (l : List ℕ) (i a b c d : ℕ)
    → set (set (set (set l i a) (i + 1) b) (i + 2) c) (i + 3) d ≡ sets l i (a ∷ b ∷ c ∷ d ∷ [])
sets-four l i a b c d = simp (add-one, add-two, add-three)

-- A run within the octets is as long as it says.
pub part_length : (s : List ℕ) (start count : ℕ) → start + count ≤ length s → length (part s start count) ≡ count
part_length s start count h =
    let k : count ≤ length (drop start s) = simp length-drop (omega arith) in length-take-le count (drop start s) k

-- What stands over the start of a buffer that is long enough is what was stored there.
pub over_start : (d xs : List ℕ) → length xs ≤ length d → take (length xs) (sets d 0 xs) ≡ xs
over_start d xs h =
    let k : 0 + length xs ≤ length d = omega arith in
    ap (take (length xs)) (sets-eq xs d 0 k) ∙ take_at xs (drop (0 + length xs) d) (length xs) refl

-- The part of a buffer that begins at a place, and is lent to its end.
pub lent-part : (d : List ℕ) (at : ℕ) → mid_of at (length d - at) d ≡ drop at d
lent-part d at = take_all (length d - at) (drop at d) (rw length-drop (omega arith))

-- Storing at the start of that part is storing at the place.
pub part-sets : (d w : List ℕ) (at : ℕ) → at + length w ≤ length d → put_mid at (length d - at) d (sets (mid_of at (length d - at) d) 0 w) ≡ sets d at w
part-sets d w at h =
    let p : post_of at (length d - at) d ≡ [] = drop_of_length-le (drop at d) {i = length d - at} (rw length-drop (omega arith)) in
    let k : 0 + length w ≤ length (drop at d) = rw length-drop (omega arith) in
    rw (lent-part d at, p, append-nil, sets-eq w (drop at d) 0 k, sets-eq w d at h, drop-drop, zero-add) (simp append_assoc)

-- A turn of a loop that copies, and its end.
copy_more : (d : List ℕ) (at : ℕ) (s : List ℕ) (start j : ℕ) → start + j < length s
    → set (sets d at (part s start j)) (at + j) (get_or s (start + j) 0) ≡ sets d at (part s start (j + 1))
copy_more d at s start j h =
    let n : j < length (drop start s) = simp length-drop (omega arith) in
    let m : j ≤ length (drop start s) = omega arith in
    sym (rw (add-one j, take-suc (drop start s) j 0 n, sets-append, length-take-le j (drop start s) m, get_or-drop))

pub copy_turn : (b d : List ℕ) (at : ℕ) (s : List ℕ) (start j : ℕ) → b ≡ sets d at (part s start j) → start + j < length s
    → set b (at + j) (get_or s (start + j) 0) ≡ sets d at (part s start (j + 1))
copy_turn b d at s start j e h = rw e (copy_more d at s start j h)

pub copy_done : (b d : List ℕ) (at : ℕ) (s : List ℕ) (start j n : ℕ) → b ≡ sets d at (part s start j) → j ≤ n → n ≤ j
    → b ≡ sets d at (part s start n)
copy_done b d at s start j n e h k = let q : j ≡ n = omega arith in rw (← q) e
