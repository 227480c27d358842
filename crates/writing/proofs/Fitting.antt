-- The code's tests are the table's: a message passes the kinds' tests exactly if it fits its table and its runs lie within the octets.
use Prim.Native.Nat.{ℕ, suc, ◌+◌, ◌≤◌, ◌<◌}
use mathlib.Core.Path.{◌≡◌, refl, sym, ap, subst, ◌∙◌}
use mathlib.Core.List.{List, [], ◌++◌, append-nil}
use mathlib.Core.Bool.{Bool, true, false, ◌&&◌, and-true, and-false}
use native.Mathlib.Omega.{arith}
use lib.ListN.{length, length-append}
use lib.Dec.{leb, ltb, eqb}
use borrow.Author.Tests.{le-leb, lt-leb, leb-true, leb-false, le-ltb, eq-eqb, ne_eqb}
use Rattle.codes.specs.declared.protocol.Protocol.{Protocol}
use Rattle.codes.specs.declared.protocol.Protocol.TheVariants.{Broadcast, Group}
use Rattle.octets.proofs.Stores.{part_length}
use Rattle.octets.specs.declared.Run.{Run}
use Rattle.octets.specs.declared.Reference.{Reference}
use Rattle.message.specs.declared.Classmark.{Classmark}
use Rattle.std.specs.Prelude.{Option, Some, None, Result}
use Rattle.writing.specs.declared.Unwritten.{Unwritten}
use Rattle.message.specs.declared.Message.{Message}
use Rattle.message.specs.declared.Message.TheVariants.{
  Connect,
  GetStatus,
  ImmediateSetup,
  SetParameter,
  Setup,
  Status,
  Termination,
  TerminationReject,
  TerminationRequest,
}
use Rattle.message.specs.Content.{content_of, run_octets, lies, runs_lie, reference_octets}
use Rattle.message.specs.Tables.{fits, table, type_of, written, rows_fit, count_fits}
use Rattle.writing.specs.Writing.{writable, put_answer, put_leaves, write_answer, write_leaves}
use Rattle.limits.specs.Limits.{run_fits, reject_fits, half_fits, half_count, status_fits}
use Rattle.writing.specs.Bodies.{Writes, body_octets, body_fits, half_octets}
use Rattle.message.specs.Tables.{head_of}
use Rattle.limits.proofs.Tests.{and_right, half_count_lem}

-- A conjunct that the one before implies says nothing.
and_implied : (a b : Bool) → (a ≡ true → b ≡ true) → a && b ≡ a
and_implied true b h = h refl
and_implied false b h = refl

-- Both sides of an order moved on by one.
leb-next : (a b : ℕ) → leb (1 + a) (1 + b) ≡ leb a b
leb-next a b = go (leb a b) refl
  where
    go : (t : Bool) → leb a b ≡ t → leb (1 + a) (1 + b) ≡ t
    go true e = let h : a ≤ b = leb-true a b e in le-leb (1 + a) (1 + b) (omega arith)
    go false e = let h : b < a = leb-false a b e in lt-leb (1 + a) (1 + b) (omega arith)

leb_next2 : (a b : ℕ) → leb (2 + a) (2 + b) ≡ leb a b
leb_next2 a b = go (leb a b) refl
  where
    go : (t : Bool) → leb a b ≡ t → leb (2 + a) (2 + b) ≡ t
    go true e = let h : a ≤ b = leb-true a b e in le-leb (2 + a) (2 + b) (omega arith)
    go false e = let h : b < a = leb-false a b e in lt-leb (2 + a) (2 + b) (omega arith)

-- A run's test, where the run lies within the octets and where it does not.
module _ (s : List ℕ) (run : Run) (least most : ℕ) where
  abbrev counts : Bool
  counts = leb least run.count && leb run.count most

  run_inside : lies s run ≡ true → run_fits s run least most ≡ counts
  unfolding run_fits
  run_inside e = simp (e, and-true)

  run_outside : lies s run ≡ false → run_fits s run least most ≡ false
  unfolding run_fits
  run_outside e = simp (e, and-false)

  full : lies s run ≡ true → length (run_octets s run) ≡ run.count
  unfolding lies
  full e = part_length s run.start run.count (leb-true _ _ e)

  few : counts ≡ true → run.count ≤ most
  few e = leb-true _ _ (and_right (leb least run.count) _ e)

-- The table's column counts the length octet too, and a TLV's the identifier.
count_lv : (p : List ℕ) (n most : ℕ) → length p ≡ n → count_fits 2 (1 + most) p ≡ leb 1 n && leb n most
count_lv p n most l = rw (l, leb-next 1 n, leb-next n most)

count_tlv : (p : List ℕ) (n most : ℕ) → length p ≡ n
    → leb 3 (2 + length p) && leb (2 + length p) (2 + most) ≡ leb 1 n && leb n most
count_tlv p n most l = rw (l, leb_next2 1 n, leb_next2 n most)

-- A value of four octets and no length octet.
count-four : (p : List ℕ) (n : ℕ) → length p ≡ n → eqb (length p) 4 ≡ leb 4 n && leb n 4
count-four p n l = rw l (go (leb 4 n) (leb n 4) refl refl)
  where
    go : (a b : Bool) → leb 4 n ≡ a → leb n 4 ≡ b → eqb n 4 ≡ a && b
    go true true e f = let h : 4 ≤ n = leb-true 4 n e in let k : n ≤ 4 = leb-true n 4 f in eq-eqb n 4 (omega arith)
    go true false e f = let h : 4 < n = leb-false n 4 f in ne_eqb n 4 (λ q. omega arith)
    go false b e f = let h : n < 4 = leb-false 4 n e in ne_eqb n 4 (λ q. omega arith)

-- The whole test, from its parts.
whole_test : (lie six rows total counts : Bool) → lie ≡ true → six ≡ true → rows ≡ counts → (counts ≡ true → total ≡ true)
    → counts ≡ lie && (six && (rows && total))
whole_test lie six rows total counts a b c t = rw (a, b, c) (sym (and_implied counts total t))

no_test : (lie rest k : Bool) → lie ≡ false → k ≡ false → k ≡ lie && rest
no_test lie rest k a b = rw (a, b)

status_test : (c x y t : Bool) → c && x && y && t ≡ c && (x && (y && true)) && t
status_test true true true t = refl
status_test true true false t = refl
status_test true false y t = refl
status_test false x y t = refl

module _ (s : List ℕ) (f : Bool) (v : ℕ) (six : v ≤ 6) where
  -- TERMINATION, and TERMINATION REJECT in broadcast calls: a cause behind its length octet.
  cause_fits : (run : Run)
      → run_fits s run 1 247 ≡ lies s run
      && (leb v 6 && (count_fits 2 248 (run_octets s run) && true && leb (suc (suc (suc (length (run_octets s run ++ []))))) 251))
  cause_fits run = go (lies s run) refl
    where
      go : (t : Bool) → lies s run ≡ t
          → run_fits s run 1 247 ≡ lies s run
          && (leb v 6 && (count_fits 2 248 (run_octets s run) && true && leb (suc (suc (suc (length (run_octets s run ++ []))))) 251))
      go false e = no_test _ _ _ e (run_outside s run 1 247 e)
      go true e =
          let l : length (run_octets s run) ≡ run.count = full s run 1 247 e in
          let k : length (run_octets s run ++ []) ≡ run.count = ap length (append-nil (run_octets s run)) ∙ l in
          run_inside s run 1 247 e
          ∙ whole_test _ _ _ _ (counts s run 1 247) e (le-leb v 6 six) (and-true _ ∙ count_lv (run_octets s run) run.count 247 l)
          (λ c. let h : run.count ≤ 247 = few s run 1 247 c in le-leb (suc (suc (suc (length (run_octets s run ++ []))))) 251 (omega arith))

  identity-fits : (protocol : Protocol) (run : Run) → run_fits s run 1 8 ≡ writable protocol s f v (GetStatus (Some run))
  unfolding writable fits table written type_of
  identity-fits protocol run = go (lies s run) refl
    where
      go : (t : Bool) → lies s run ≡ t → run_fits s run 1 8 ≡ writable protocol s f v (GetStatus (Some run))
      go false e = no_test _ _ _ e (run_outside s run 1 8 e)
      go true e =
          let l : length (run_octets s run) ≡ run.count = full s run 1 8 e in
          let k : length (run_octets s run ++ []) ≡ run.count = ap length (append-nil (run_octets s run)) ∙ l in
          run_inside s run 1 8 e
          ∙ whole_test _ _ _ _ (counts s run 1 8) e (le-leb v 6 six) (and-true _ ∙ count_tlv (run_octets s run) run.count 8 l)
          (λ c. let h : run.count ≤ 8 = few s run 1 8 c in le-leb (suc (suc (suc (suc (length (run_octets s run ++ [])))))) 251 (omega arith))

  immediate-fits : (protocol : Protocol) (key : ℕ) (c : Classmark) (run : Run) (r : Reference)
      → ltb key 8 && run_fits s run 1 8 ≡ writable protocol s f v (ImmediateSetup key c run r)
  unfolding writable fits table written type_of
  immediate-fits protocol key c run r = go (lies s run) refl
    where
      go : (t : Bool) → lies s run ≡ t → ltb key 8 && run_fits s run 1 8 ≡ writable protocol s f v (ImmediateSetup key c run r)
      go false e = no_test _ _ _ e (ap (λ (b : Bool). ltb key 8 && b) (run_outside s run 1 8 e) ∙ and-false (ltb key 8))
      go true e =
          let l : length (run_octets s run) ≡ run.count = full s run 1 8 e in
          let k : length (run_octets s run ++ reference_octets r) ≡ run.count + 4 = length-append (run_octets s run) (reference_octets r) ∙ ap (λ (n : ℕ). n + 4) l in
          ap (λ (b : Bool). ltb key 8 && b) (run_inside s run 1 8 e)
          ∙ whole_test _ _ _ _ (ltb key 8 && counts s run 1 8) e (le-leb v 6 six)
          (ap (λ (b : Bool). ltb key 8 && b) (and-true _ ∙ count_lv (run_octets s run) run.count 8 l))
          (λ q.
          let h : run.count ≤ 8 = few s run 1 8 (and_right (ltb key 8) _ q) in
          le-leb (suc (suc (suc (suc (suc (suc (suc (suc (length (run_octets s run ++ reference_octets r)))))))))) 251 (omega arith))

  status-fits : (protocol : Protocol) (run : Run) (x y : Option ℕ) → status_fits s run x y ≡ writable protocol s f v (Status run x y)
  unfolding writable fits table written type_of status_fits
  status-fits protocol run x y = go (lies s run) refl
    where
      go : (t : Bool) → lies s run ≡ t → status_fits s run x y ≡ writable protocol s f v (Status run x y)
      go false e = no_test _ _ _ e (simp (run_outside s run 1 247 e))
      go true e =
          let l : length (run_octets s run) ≡ run.count = full s run 1 247 e in
          let k : length (run_octets s run ++ (half_octets 0xA x ++ (half_octets 0xB y ++ []))) ≡ run.count + (half_count x + half_count y) =
          length-append (run_octets s run) _ ∙ rw (append-nil, length-append, half_count_lem, half_count_lem, l) in
          let m : 3 + run.count + half_count x + half_count y ≡ suc (suc (suc (length (run_octets s run ++ (half_octets 0xA x ++ (half_octets 0xB y ++ [])))))) = omega arith in
          rw (run_inside s run 1 247 e, m, e, le-leb v 6 six, count_lv (run_octets s run) run.count 247 l)
          (status_test (counts s run 1 247) (half_fits x) (half_fits y) _)

  -- TERMINATION REJECT in group calls: four octets.
  four-fits : (run : Run)
      → run_fits s run 4 4 ≡ lies s run && (leb v 6 && (eqb (length (run_octets s run)) 4 && true && leb (suc (suc (length (run_octets s run ++ [])))) 251))
  four-fits run = go (lies s run) refl
    where
      go : (t : Bool) → lies s run ≡ t
          → run_fits s run 4 4 ≡ lies s run && (leb v 6 && (eqb (length (run_octets s run)) 4 && true && leb (suc (suc (length (run_octets s run ++ [])))) 251))
      go false e = no_test _ _ _ e (run_outside s run 4 4 e)
      go true e =
          let l : length (run_octets s run) ≡ run.count = full s run 4 4 e in
          let k : length (run_octets s run ++ []) ≡ run.count = ap length (append-nil (run_octets s run)) ∙ l in
          run_inside s run 4 4 e
          ∙ whole_test _ _ _ _ (counts s run 4 4) e (le-leb v 6 six) (and-true _ ∙ count-four (run_octets s run) run.count l)
          (λ c. let h : run.count ≤ 4 = few s run 4 4 c in le-leb (suc (suc (length (run_octets s run ++ [])))) 251 (omega arith))

  reject_fits_lem : (protocol : Protocol) (run : Run) → reject_fits protocol s run ≡ writable protocol s f v (TerminationReject run)
  unfolding writable fits table written type_of reject_fits
  reject_fits_lem Broadcast run = cause_fits run
  reject_fits_lem Group run = four-fits run

  pub fits-same : (protocol : Protocol) (m : Message) → body_fits protocol s m ≡ writable protocol s f v m
  unfolding writable fits table written type_of
  fits-same protocol (Connect r o) = simp (le-leb v 6 six, and-true)
  fits-same protocol (GetStatus None) = simp (le-leb v 6 six)
  fits-same protocol (GetStatus (Some run)) = identity-fits protocol run
  fits-same protocol (ImmediateSetup key c run r) = immediate-fits protocol key c run r
  fits-same protocol (SetParameter a) = simp (le-leb v 6 six, and-true)
  fits-same protocol (Setup r) = simp (le-leb v 6 six)
  fits-same protocol (Status run x y) = status-fits protocol run x y
  fits-same protocol (Termination run) = cause_fits run
  fits-same protocol (TerminationReject run) = reject_fits_lem protocol run
  fits-same protocol (TerminationRequest r) = simp (le-leb v 6 six)

-- What a kind's writer meets, `put` meets, where the transaction value is at most 6.
pub puts_whole : (protocol : Protocol) (d s : List ℕ) (head : ℕ) (f : Bool) (v : ℕ) (m : Message) (r : Result ℕ Unwritten) (e : List ℕ) → v ≤ 6
    → head ≡ head_of protocol f v → Writes d (body_octets protocol head (content_of s m)) (body_fits protocol s m) r e
    → (r ≡ put_answer protocol d s f v m) × (e ≡ put_leaves protocol d s f v m)
unfolding put_answer put_leaves written body_octets
puts_whole protocol d s head f v m r e six q p =
    let o : List ℕ = written protocol f v (content_of s m) in
    let same : body_octets protocol head (content_of s m) ≡ o = ap (λ (x : ℕ). body_octets protocol x (content_of s m)) q in
    let w : Writes d o (writable protocol s f v m) r e = subst (λ (t : Bool). Writes d o t r e) (fits-same s f v six protocol m) (subst (λ (x : List ℕ). Writes d x (body_fits protocol s m) r e) same p) in
    (w.answer, w.after)

-- In a buffer of 255 octets there is room for what can be written, so that `put` writes as `write` is to.
module _ (protocol : Protocol) (d s : List ℕ) (f : Bool) (v : ℕ) (m : Message) (room : 255 ≤ length d) where
  few-written : writable protocol s f v m ≡ true → length (written protocol f v (content_of s m)) ≤ 251
  unfolding writable fits
  few-written e =
      let fitting : leb v 6 && (rows_fit (table protocol (content_of s m)) && leb (length (written protocol f v (content_of s m))) 251) ≡ true = and_right (runs_lie s m) _ e in
      leb-true _ _ (and_right (rows_fit (table protocol (content_of s m))) _ (and_right (leb v 6) _ fitting))

  same-written : (put_answer protocol d s f v m ≡ write_answer protocol d s f v m) × (put_leaves protocol d s f v m ≡ write_leaves protocol d s f v m)
  unfolding put_answer put_leaves write_answer write_leaves
  same-written = go (writable protocol s f v m) refl
    where
      go : (t : Bool) → writable protocol s f v m ≡ t → (put_answer protocol d s f v m ≡ write_answer protocol d s f v m) × (put_leaves protocol d s f v m ≡ write_leaves protocol d s f v m)
      go false e = rw (e, le-ltb _ _ room) (refl, refl)
      go true e =
          let few : length (written protocol f v (content_of s m)) ≤ 251 = few-written e in
          let k : length (written protocol f v (content_of s m)) ≤ length d = omega arith in
          rw (e, le-ltb _ _ room, le-ltb _ _ k) (refl, refl)

  pub written_put : (r : Result ℕ Unwritten) (e : List ℕ) → (r ≡ put_answer protocol d s f v m) × (e ≡ put_leaves protocol d s f v m)
      → (r ≡ write_answer protocol d s f v m) × (e ≡ write_leaves protocol d s f v m)
  written_put r e p = (p.0 ∙ same-written.0, p.1 ∙ same-written.1)

-- A transaction value over 6 fits no message.
pub value_over : (protocol : Protocol) (s : List ℕ) (f : Bool) (v : ℕ) (m : Message) → 6 < v → writable protocol s f v m ≡ false
unfolding writable fits
value_over protocol s f v m h = simp (lt-leb _ _ h, and-false)
