-- Laws of the kinds' writers: what was stored is what the table draws.
use Prim.Native.Nat.{ℕ, suc, ◌+◌, ◌*◌, ◌≤◌, ◌<◌}
use mathlib.Core.Path.{◌≡◌, refl, sym, ap, subst, ◌∙◌}
use mathlib.Core.List.{List, [], ◌∷◌, ◌++◌, append-nil, append_assoc}
use mathlib.Core.Bool.{Bool, true, false, ◌&&◌, and-false}
use native.Mathlib.Omega.{arith}
use lib.ListN.{length, set, length-append}
use lib.Seq.{sets}
use lib.Dec.{ltb}
use borrow.Author.Tests.{lt-ltb, le-ltb}
use Rattle.octets.proofs.Stores.{sets_then}
use Rattle.codes.specs.declared.protocol.Protocol.{Protocol}
use Rattle.codes.specs.declared.protocol.Protocol.TheVariants.{Broadcast, Group}
use Rattle.octets.specs.declared.Run.{Run}
use Rattle.octets.specs.declared.Reference.{Reference}
use Rattle.message.specs.declared.Classmark.{Classmark}
use Rattle.std.specs.Prelude.{Option, Some, None, Result, Ok, Err}
use Rattle.writing.specs.declared.Unwritten.{Unwritten}
use Rattle.writing.specs.declared.Unwritten.TheVariants.{OutOfRange, ShortBuffer}
use Rattle.message.specs.declared.Message.{Message}
use Rattle.message.specs.declared.Message.TheVariants.{GetStatus}
use Rattle.message.specs.Content.{content_of, run_octets, connect, get_status, immediate_setup, set_parameter, setup, status, termination, termination_reject, termination_request, reference_octets}
use Rattle.message.specs.Tables.{type_of, table}
use Rattle.limits.specs.Limits.{run_fits, reject_fits, half_count, status_fits}
use Rattle.writing.specs.Bodies.{Writes, body_octets, body_fits, common_octets, common_fits, cause_octets, half_octets}
use Rattle.limits.proofs.Tests.{good, fine, half_count_lem}

module _ (d xs : List ℕ) (fits : Bool) where
  pub refused : fits ≡ false → Writes d xs fits (Err OutOfRange) d
  refused g = record { answer = simp g; after = simp g }

  pub no_room : (n : ℕ) → fits ≡ true → length xs ≡ n → length d < n → Writes d xs fits (Err ShortBuffer) d
  no_room n g l h = let k : length d < length xs = omega arith in record { answer = simp (g, lt-ltb _ _ k); after = simp (g, lt-ltb _ _ k) }

  pub done : (n : ℕ) (e : List ℕ) → fits ≡ true → length xs ≡ n → n ≤ length d → e ≡ sets d 0 xs → Writes d xs fits (Ok n) e
  done n e g l h q =
      let k : length xs ≤ length d = omega arith in
      record { answer = simp (g, le-ltb _ _ k) (ap Ok (sym l)); after = simp (g, le-ltb _ _ k) q }

-- What was put where a test holds was written by that test, under any name for the octets.
pub taken : (d xs ys : List ℕ) (fits : Bool) (r : Result ℕ Unwritten) (e : List ℕ) → fits ≡ true → xs ≡ ys → Writes d xs true r e → Writes d ys fits r e
taken d xs ys fits r e g x p = rw g (subst (λ zs. Writes d zs true r e) x p)

-- The kind that a message is decides.
pub writes_at : (protocol : Protocol) (d s : List ℕ) (head : ℕ) (m n : Message) (r : Result ℕ Unwritten) (e : List ℕ) → m ≡ n
    → Writes d (body_octets protocol head (content_of s n)) (body_fits protocol s n) r e
    → Writes d (body_octets protocol head (content_of s m)) (body_fits protocol s m) r e
writes_at protocol d s head m n r e q p = rw q p

-- Kinds of one shape share a writer: a type and a reference.
pub writes_as : (protocol : Protocol) (d s xs : List ℕ) (head : ℕ) (m n : Message) (r : Result ℕ Unwritten) (e : List ℕ) → m ≡ n
    → xs ≡ body_octets protocol head (content_of s n) → Writes d xs (body_fits protocol s n) r e
    → Writes d (body_octets protocol head (content_of s m)) (body_fits protocol s m) r e
writes_as protocol d s xs head m n r e q x p = writes_at protocol d s head m n r e q (subst (λ ys. Writes d ys (body_fits protocol s n) r e) x p)

pub setup-octets : (protocol : Protocol) (head : ℕ) (r : Reference) → head ∷ 0x32 ∷ reference_octets r ≡ body_octets protocol head (setup r)
unfolding body_octets type_of table
setup-octets protocol head r = refl

pub request_octets : (protocol : Protocol) (head : ℕ) (r : Reference) → head ∷ 0x35 ∷ reference_octets r ≡ body_octets protocol head (termination_request r)
unfolding body_octets type_of table
request_octets protocol head r = refl

pub termination-octets : (head : ℕ) (s : List ℕ) (run : Run) → head ∷ 0x34 ∷ cause_octets s run ≡ common_octets head (termination (run_octets s run))
unfolding body_octets type_of table
termination-octets head s run =
    ap (λ (x : List ℕ). head ∷ 0x34 ∷ length (run_octets s run) ∷ x) (sym (append-nil (run_octets s run)))

-- TERMINATION REJECT, as each protocol draws it.
pub reject_counted : (head : ℕ) (s : List ℕ) (run : Run) → head ∷ 0x36 ∷ cause_octets s run ≡ body_octets Broadcast head (termination_reject (run_octets s run))
unfolding body_octets type_of table
reject_counted head s run =
    ap (λ (x : List ℕ). head ∷ 0x36 ∷ length (run_octets s run) ∷ x) (sym (append-nil (run_octets s run)))

pub reject_four : (head : ℕ) (s : List ℕ) (run : Run) → head ∷ 0x36 ∷ run_octets s run ≡ body_octets Group head (termination_reject (run_octets s run))
unfolding body_octets type_of table
reject_four head s run = ap (λ (x : List ℕ). head ∷ 0x36 ∷ x) (sym (append-nil (run_octets s run)))

module _ (protocol : Protocol) (s : List ℕ) (run : Run) (g : reject_fits protocol s run ≡ true) where
  pub fits-counted : protocol ≡ Broadcast → run_fits s run 1 247 ≡ true
  unfolding reject_fits
  fits-counted q = rw q at g

  pub fits-four : protocol ≡ Group → run_fits s run 4 4 ≡ true
  unfolding reject_fits
  fits-four q = rw q at g

  pub reject_at : (d xs : List ℕ) (head : ℕ) (p : Protocol) (r : Result ℕ Unwritten) (e : List ℕ) → protocol ≡ p
      → xs ≡ body_octets p head (termination_reject (run_octets s run)) → Writes d xs true r e
      → Writes d (body_octets protocol head (termination_reject (run_octets s run))) (reject_fits protocol s run) r e
  reject_at d xs head p r e q x w = taken d xs _ (reject_fits protocol s run) r e g (x ∙ ap (λ y. body_octets y head (termination_reject (run_octets s run))) (sym q)) w

-- How many octets each kind takes.
pub connect-count : (head : ℕ) (r : Reference) (o : ℕ) → length (common_octets head (connect r o)) ≡ 7
unfolding body_octets type_of table
connect-count head r o = refl

pub parameter_count : (head a : ℕ) → length (common_octets head (set_parameter a)) ≡ 3
unfolding body_octets type_of table
parameter_count head a = refl

module _ (s : List ℕ) (head : ℕ) (run : Run) where
  pub cause_count : (kind : ℕ) → run_fits s run 1 247 ≡ true → length (head ∷ kind ∷ cause_octets s run) ≡ 3 + run.count
  cause_count kind g = let l : length (run_octets s run) ≡ run.count = (good s run 1 247 g).full in omega arith

  pub four-count : (kind : ℕ) → run_fits s run 4 4 ≡ true → length (head ∷ kind ∷ run_octets s run) ≡ 2 + run.count
  four-count kind g = let l : length (run_octets s run) ≡ run.count = (good s run 4 4 g).full in omega arith

  pub identified-count : run_fits s run 1 8 ≡ true → length (common_octets head (get_status (Some (run_octets s run)))) ≡ 4 + run.count
  unfolding body_octets type_of table
  identified-count g =
      let k : length (run_octets s run ++ []) ≡ run.count = ap length (append-nil (run_octets s run)) ∙ (good s run 1 8 g).full in
      let u : suc (suc (suc (suc (length (run_octets s run ++ []))))) ≡ 4 + run.count = omega arith in
      u

  pub immediate-count : (key : ℕ) (c : Classmark) (r : Reference) → run_fits s run 1 8 ≡ true
      → length (common_octets head (immediate_setup key c (run_octets s run) r)) ≡ 12 + run.count
  unfolding body_octets type_of table
  immediate-count key c r g = let l : length (run_octets s run) ≡ run.count = (good s run 1 8 g).full in simp length-append (omega arith)

  pub status-count : (x y : Option ℕ) → status_fits s run x y ≡ true
      → length (common_octets head (status (run_octets s run) x y)) ≡ 3 + run.count + half_count x + half_count y
  unfolding body_octets type_of table
  status-count x y ok =
      let l : length (run_octets s run) ≡ run.count = (good s run 1 247 (fine s run x y ok).run).full in
      let t : length (run_octets s run ++ (half_octets 0xA x ++ (half_octets 0xB y ++ []))) ≡ run.count + (half_count x + half_count y) =
      length-append (run_octets s run) _ ∙ rw (append-nil, length-append, half_count_lem, half_count_lem, l) in
      let u : suc (suc (suc (length (run_octets s run ++ (half_octets 0xA x ++ (half_octets 0xB y ++ [])))))) ≡ 3 + run.count + half_count x + half_count y = omega arith in
      u

module _ (d : List ℕ) (head : ℕ) (e : List ℕ) where
  pub connect-done : (r : Reference) (o : ℕ) → o < 2 → 7 ≤ length d
      → e ≡ sets d 0 (head ∷ 0x33 ∷ r.first ∷ r.second ∷ r.third ∷ r.fourth ∷ o ∷ [])
      → Writes d (common_octets head (connect r o)) (ltb o 2) (Ok 7) e
  unfolding body_octets type_of table
  connect-done r o h room q =
      let z : o + 16 * 0 ≡ o = omega arith in done d (common_octets head (connect r o)) _ 7 e (lt-ltb _ _ h) refl room (rw z q)

  pub parameter_done : (a : ℕ) → a < 16 → 3 ≤ length d → e ≡ sets d 0 (head ∷ 0x3A ∷ a ∷ [])
      → Writes d (common_octets head (set_parameter a)) (ltb a 16) (Ok 3) e
  unfolding body_octets type_of table
  parameter_done a h room q =
      let z : a + 16 * 0 ≡ a = omega arith in done d (common_octets head (set_parameter a)) _ 3 e (lt-ltb _ _ h) refl room (rw z q)

module _ (d s : List ℕ) (head : ℕ) (run : Run) (e : List ℕ) where
  pub cause_done : (kind : ℕ) → run_fits s run 1 247 ≡ true → 3 + run.count ≤ length d → e ≡ sets d 0 (head ∷ kind ∷ run.count ∷ run_octets s run)
      → Writes d (head ∷ kind ∷ cause_octets s run) true (Ok (3 + run.count)) e
  cause_done kind g room q =
      let l : length (run_octets s run) ≡ run.count = (good s run 1 247 g).full in
      done d (head ∷ kind ∷ cause_octets s run) _ (3 + run.count) e refl (cause_count s head run kind g) room (rw l q)

  pub four-done : (kind : ℕ) → run_fits s run 4 4 ≡ true → 2 + run.count ≤ length d → e ≡ sets d 0 (head ∷ kind ∷ run_octets s run)
      → Writes d (head ∷ kind ∷ run_octets s run) true (Ok (2 + run.count)) e
  four-done kind g room q = done d (head ∷ kind ∷ run_octets s run) _ (2 + run.count) e refl (four-count s head run kind g) room q

  pub identified-done : run_fits s run 1 8 ≡ true → 4 + run.count ≤ length d → e ≡ sets d 0 (head ∷ 0x39 ∷ 0x17 ∷ run.count ∷ run_octets s run)
      → Writes d (common_octets head (get_status (Some (run_octets s run)))) (run_fits s run 1 8) (Ok (4 + run.count)) e
  unfolding body_octets type_of table
  identified-done g room q =
      let l : length (run_octets s run) ≡ run.count = (good s run 1 8 g).full in
      done d (common_octets head (get_status (Some (run_octets s run)))) _ (4 + run.count) e g (identified-count s head run g) room (rw (append-nil, l) q)

  pub immediate-done : (key : ℕ) (c : Classmark) (r : Reference) (f : List ℕ) → key < 8 → run_fits s run 1 8 ≡ true → 12 + run.count ≤ length d
      → e ≡ sets d 0 (head ∷ 0x31 ∷ (16 * key) ∷ 3 ∷ c.first ∷ c.second ∷ c.third ∷ run.count ∷ run_octets s run)
      → f ≡ sets e (8 + run.count) (reference_octets r)
      → Writes d (common_octets head (immediate_setup key c (run_octets s run) r)) (ltb key 8 && run_fits s run 1 8) (Ok (12 + run.count)) f
  unfolding body_octets type_of table
  immediate-done key c r f h g room p q =
      let l : length (run_octets s run) ≡ run.count = (good s run 1 8 g).full in
      let z : 0 + 16 * key ≡ 16 * key = omega arith in
      done d (common_octets head (immediate_setup key c (run_octets s run) r)) _ (12 + run.count) f (simp (lt-ltb _ _ h, g))
      (immediate-count s head run key c r g) room
      (rw (z, l)
      (sets_then d e f (head ∷ 0x31 ∷ (16 * key) ∷ 3 ∷ c.first ∷ c.second ∷ c.third ∷ run.count ∷ run_octets s run) (reference_octets r) (8 + run.count)
      (omega arith) p q))

pub get_status-bare : (d s : List ℕ) (head : ℕ) (identity : Option Run) → identity ≡ None → 2 ≤ length d
    → Writes d (common_octets head (content_of s (GetStatus identity))) (common_fits s (GetStatus identity)) (Ok 2) (set (set d 0 head) 1 0x39)
unfolding body_octets type_of table
get_status-bare d s head identity q room = rw q (done d (head ∷ 0x39 ∷ []) true 2 (set (set d 0 head) 1 0x39) refl refl room refl)

pub get_status-short : (d s : List ℕ) (head : ℕ) (identity : Option Run) → identity ≡ None → length d < 2
    → Writes d (common_octets head (content_of s (GetStatus identity))) (common_fits s (GetStatus identity)) (Err ShortBuffer) d
unfolding body_octets type_of table
get_status-short d s head identity q room = rw q (no_room d (head ∷ 0x39 ∷ []) true 2 refl refl room)

pub get_status-named : (d s : List ℕ) (head : ℕ) (identity : Option Run) (run : Run) (r : Result ℕ Unwritten) (e : List ℕ) → identity ≡ Some run
    → Writes d (common_octets head (content_of s (GetStatus (Some run)))) (common_fits s (GetStatus (Some run))) r e
    → Writes d (common_octets head (content_of s (GetStatus identity))) (common_fits s (GetStatus identity)) r e
get_status-named d s head identity run r e q p = rw q p

pub immediate-key : (key : ℕ) (b : Bool) → 8 ≤ key → ltb key 8 && b ≡ false
immediate-key key b h = simp (le-ltb _ _ h)

pub immediate_both : (key : ℕ) (b : Bool) → key < 8 → b ≡ true → ltb key 8 && b ≡ true
immediate_both key b h e = simp (lt-ltb _ _ h, e)

pub immediate-run : (key : ℕ) (b : Bool) → b ≡ false → ltb key 8 && b ≡ false
immediate-run key b h = simp (h, and-false)

-- A half octet that is absent, and one that is there.
pub put_none : (d : List ℕ) (at identifier : ℕ) (half : Option ℕ) → half ≡ None
    → (at ≡ at + half_count half) × (d ≡ sets d at (half_octets identifier half))
put_none d at identifier half e = rw e (omega arith, refl)

pub put_one : (d : List ℕ) (at identifier value : ℕ) (half : Option ℕ) → half ≡ Some value
    → (at + 1 ≡ at + half_count half) × (set d at (16 * identifier + value) ≡ sets d at (half_octets identifier half))
put_one d at identifier value half e = rw e (refl, refl)

pub status-done : (d s : List ℕ) (head : ℕ) (run : Run) (x y : Option ℕ) (e f g : List ℕ) (m n : ℕ) → status_fits s run x y ≡ true
    → 3 + run.count + half_count x + half_count y ≤ length d → e ≡ sets d 0 (head ∷ 0x38 ∷ run.count ∷ run_octets s run)
    → m ≡ 3 + run.count + half_count x → f ≡ sets e (3 + run.count) (half_octets 0xA x)
    → n ≡ m + half_count y → g ≡ sets f m (half_octets 0xB y)
    → Writes d (common_octets head (status (run_octets s run) x y)) (status_fits s run x y) (Ok n) g
unfolding body_octets type_of table
status-done d s head run x y e f g m n ok room p a q b r =
    let l : length (run_octets s run) ≡ run.count = (good s run 1 247 (fine s run x y ok).run).full in
    let o : List ℕ = head ∷ 0x38 ∷ run.count ∷ run_octets s run in
    let z : f ≡ sets d 0 (o ++ half_octets 0xA x) = sets_then d e f o (half_octets 0xA x) (3 + run.count) (omega arith) p q in
    let k : length (o ++ half_octets 0xA x) ≡ m = simp (length-append, half_count_lem) (omega arith) in
    let w : g ≡ sets d 0 ((o ++ half_octets 0xA x) ++ half_octets 0xB y) = sets_then d f g (o ++ half_octets 0xA x) (half_octets 0xB y) m k z r in
    let total : 3 + run.count + half_count x + half_count y ≡ n = omega arith in
    done d (common_octets head (status (run_octets s run) x y)) (status_fits s run x y) n g ok (status-count s head run x y ok ∙ total) (omega arith)
    (rw (append-nil, l) (rw append_assoc at w))
