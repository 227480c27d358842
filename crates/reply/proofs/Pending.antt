-- What was pending is put behind what the row itself sends: octet by octet what the contracts of this crate say.
use Prim.Native.Nat.{ℕ, ◌+◌, ◌-◌, ◌/◌, ◌%◌, ◌≤◌, ◌<◌}
use mathlib.Core.Path.{◌≡◌, refl, sym, ap, ◌∙◌}
use mathlib.Core.List.{List, [], ◌∷◌, ◌++◌, append-nil, append_assoc}
use mathlib.Core.Bool.{Bool, true, false, cond, not, ◌||◌}
use native.Mathlib.Omega.{arith}
use lib.Dec.{leb, ltb}
use lib.ListN.{length, get_or, length-append}
use lib.Seq.{sets, length-sets}
use borrow.Author.Tests.{le-ltb, lt-ltb, leb-true, leb-false, not-true, not-false}
use borrow.Rule.Slice.PartMut.{put_mid, mid_of, mid_len, put_same}
use Rattle.octets.proofs.Choice.{cond_same, at_cond, never}
use Rattle.octets.proofs.Stores.{sets-append, part-sets}
use Rattle.codes.specs.CallStates.{call_state_code}
use Rattle.codes.specs.Attributes.{attributes_of}
use Rattle.codes.specs.declared.protocol.Protocol.{Protocol}
use Rattle.std.specs.Prelude.{Some, Result, Ok, Err}
use Rattle.writing.specs.declared.Unwritten.{Unwritten}
use Rattle.writing.specs.declared.Unwritten.TheVariants.{OutOfRange, ShortBuffer}
use Rattle.message.specs.declared.Message.{Message}
use Rattle.message.specs.declared.Message.TheVariants.{TerminationRequest}
use Rattle.message.specs.Content.{termination_request, status, lies}
use Rattle.message.specs.Tables.{written, table}
use Rattle.writing.specs.Writing.{writable, octets_written, put_answer, put_leaves}
use Rattle.context.specs.declared.Context.{Context}
use Rattle.call.specs.declared.Sent.{Sent}
use Rattle.call.specs.Talk.{with_value}
use Rattle.call.specs.declared.Sending.{Sending}
use Rattle.message.specs.declared.Own.{Own}
use Rattle.reply.specs.declared.Sender.{Sender}
use Rattle.reply.specs.Reply.{sent, cause_octet, hearing, behind, put_due, put_of, put_all}
use Rattle.std.specs.Result.{result_unwrap_or}
use Rattle.reply.specs.Put.{sender_of, status_telling, message_from, placed, pending_of}
use Rattle.reply.proofs.Fits.{put_within}

-- So many octets `n` stand behind the first `at` of `d`, and are `w`.
abbrev pub Stands : List ℕ → ℕ → List ℕ → ℕ → List ℕ → Type 0
Stands d at w n after = (n ≡ at + length w) × (after ≡ sets d at w)

nothing-stands : (d : List ℕ) (at : ℕ) → Stands d at [] at d
nothing-stands d at = (omega arith, refl)

stands_as : (d : List ℕ) (at : ℕ) (v w : List ℕ) (n : ℕ) (after : List ℕ) → v ≡ w → Stands d at w n after → Stands d at v n after
stands_as d at v w n after e p = rw e p

-- ---- what a report is sent in

-- No octet is 0.
pub no_first : (s : List ℕ) → length s ≡ 0 → 0 ≡ get_or s 0 0
no_first [] h = refl
no_first (b ∷ s) h = let z : ⊥ = omega arith in elim z [ ]

module _ (s : List ℕ) (x : Context) where
  pub not_awaited : not x.talk.awaiting ≡ true → x ≡ hearing s x
  unfolding hearing
  not_awaited e = rw (not-true x.talk.awaiting e)

  pub awaited : not x.talk.awaiting ≡ false → (first : ℕ) → first ≡ get_or s 0 0 → with_value (first / 16 % 8) x ≡ hearing s x
  unfolding hearing
  awaited e first p = rw (not-false x.talk.awaiting e, p)

-- ---- one message

-- The part of a reply behind its first `at` octets, and the reply with other octets in its place.
abbrev lent : List ℕ → ℕ → List ℕ
lent d at = mid_of at (length d - at) d

abbrev back : List ℕ → ℕ → List ℕ → List ℕ
back d at = put_mid at (length d - at) d

-- Octets that are put into that part.
module _ (d : List ℕ) (at : ℕ) (low : at ≤ length d) (w : List ℕ) where
  -- The part is short of room for them exactly if the reply is.
  short_of : (t : Bool) → leb (at + length w) (length d) ≡ t → ltb (length (lent d at)) (length w) ≡ not t
  short_of true e =
      let h : at + length w ≤ length d = leb-true _ _ e in
      let l : length (lent d at) ≡ length d - at = mid_len at (length d) d (omega arith) in
      le-ltb (length (lent d at)) (length w) (omega arith)
  short_of false e =
      let h : length d < at + length w = leb-false _ _ e in
      let l : length (lent d at) ≡ length d - at = mid_len at (length d) d (omega arith) in
      lt-ltb (length (lent d at)) (length w) (omega arith)

  -- What the writer answers and leaves, where the message can be written and where it can't.
  abbrev Put : Bool → Bool → List ℕ → Type 0
  Put can short v = Stands d at v (at + result_unwrap_or (cond can (cond short (Err ShortBuffer) (Ok (length w))) (Err OutOfRange)) 0) (back d at (cond can (cond short (lent d at) (sets (lent d at) 0 w)) (lent d at)))

  into_part : (can : Bool) → Put can (ltb (length (lent d at)) (length w)) (placed (length d) at (cond can w []))
  unfolding placed
  into_part true = go (leb (at + length w) (length d)) refl
    where
      go : (t : Bool) → leb (at + length w) (length d) ≡ t → Put true (ltb (length (lent d at)) (length w)) (cond (leb (at + length w) (length d)) w [])
      go true e = rw (short_of true e, e) (refl, part-sets d w at (leb-true _ _ e))
      go false e = rw (short_of false e, e) (refl, put_same at (length d - at) d)
  into_part false = stands_as d at _ [] (at + 0) _ (cond_same (leb (at + length {A = ℕ} []) (length d)) []) (refl, put_same at (length d - at) d)

-- ---- behind others

placed-within : (room at : ℕ) (w : List ℕ) → at ≤ room → at + length (placed room at w) ≤ room
unfolding placed
placed-within room at w h = at_cond (λ (v : List ℕ). at + length v ≤ room) (leb (at + length w) room) w [] (λ e. leb-true _ _ e) (λ e. omega arith)

-- The two ways of `put_due`.
module _ (protocol : Protocol) (s : List ℕ) (x : Context) (m : Message) (d : List ℕ) (at : ℕ) (due : Bool) where
  abbrev Due : ℕ → List ℕ → Type 0
  Due = Stands d at (placed (length d) at (cond due (message_from protocol s (sender_of x) m) []))

  pub not_due : not due ≡ true → Due at d
  unfolding placed
  not_due e = stands_as d at _ [] at d (ap (λ (t : Bool). placed (length d) at (cond t (message_from protocol s (sender_of x) m) [])) (not-true due e) ∙ cond_same (leb (at + length {A = ℕ} []) (length d)) []) (nothing-stands d at)

  module _ (e : not due ≡ false) (low : at ≤ length d) (y : Sender) (f : y ≡ sender_of x) (w : Result ℕ Unwritten) (p : w ≡ put_answer protocol (lent d at) s y.flag y.value m) (n : ℕ) (q : n ≡ result_unwrap_or w 0) where
    pub due_put : (after : List ℕ) → after ≡ put_leaves protocol (lent d at) s y.flag y.value m → Due (at + n) (back d at after)
    unfolding put_answer put_leaves message_from
    due_put after u =
        let octets : List ℕ = octets_written protocol s y.flag y.value m in
        let t : Bool = writable protocol s y.flag y.value m in
        let i : Put d at low octets t (ltb (length (lent d at)) (length octets)) (placed (length d) at (cond t octets [])) = into_part d at low octets t in
        stands_as d at _ (placed (length d) at (cond t octets [])) (at + n) _
        (ap (λ (g : Bool). placed (length d) at (cond g (message_from protocol s (sender_of x) m) [])) (not-false due e) ∙ ap (λ (z : Sender). placed (length d) at (message_from protocol s z m)) (sym f))
        (ap (λ (j : ℕ). at + j) (q ∙ ap (λ (r : Result ℕ Unwritten). result_unwrap_or r 0) p) ∙ i.0, ap (back d at) u ∙ i.1)

    pub due_within : (after : List ℕ) → after ≡ put_leaves protocol (lent d at) s y.flag y.value m → at + n ≤ length d
    due_within after u =
        let v : List ℕ = cond due (message_from protocol s (sender_of x) m) [] in
        let h : at + n ≡ at + length (placed (length d) at v) = (due_put after u).0 in
        let k : at + length (placed (length d) at v) ≤ length d = placed-within (length d) at v low in
        omega arith

-- ---- two messages

-- What stands behind what stands.
stand_both : (d : List ℕ) (at : ℕ) (v w : List ℕ) (n m : ℕ) (e f : List ℕ) → Stands d at v n e → Stands e n w m f → Stands d at (v ++ w) m f
stand_both d at v w n m e f p q =
    let l : length (v ++ w) ≡ length v + length w = length-append v w in
    let a : n ≡ at + length v = p.0 in
    let b : m ≡ n + length w = q.0 in
    (omega arith, q.1 ∙ ap (λ (x : List ℕ). sets x n w) p.1 ∙ ap (λ (k : ℕ). sets (sets d at v) k w) a ∙ sym (sets-append d at v w))

-- The count behind what was placed is within the buffer.
pub stands-within : (d : List ℕ) (at : ℕ) (w : List ℕ) (n : ℕ) (e : List ℕ) → at ≤ length d → Stands d at (placed (length d) at w) n e → n ≤ length e
stands-within d at w n e low p =
    let l : length e ≡ length d = ap length p.1 ∙ length-sets d at (placed (length d) at w) in
    let h : at + length (placed (length d) at w) ≤ length d = placed-within (length d) at w low in
    let a : n ≡ at + length (placed (length d) at w) = p.0 in
    omega arith

module _ (protocol : Protocol) (x : Context) (k : Sent) (d : List ℕ) (at : ℕ) where
  abbrev status_put : Message → List ℕ
  status_put m = placed (length d) at (cond k.status (message_from protocol (158 ∷ []) (sender_of x) m) [])

  abbrev request_put : ℕ → ℕ → List ℕ
  request_put room n = placed room n (cond k.request (message_from protocol (158 ∷ []) (sender_of x) (TerminationRequest x.reference)) [])

  -- `put_pending`.
  pub both_pending : (m : Message) → m ≡ status_telling (record { start = 0; count = 1 }) k.state k.parameters → (n : ℕ) (e : List ℕ) → Stands d at (status_put m) n e
      → (r : ℕ) (f : List ℕ) → Stands e n (request_put (length e) n) r f → Stands d at (pending_of protocol (length d) at x k) r f
  unfolding pending_of
  both_pending m u n e p r f q =
      let l : length e ≡ length d = ap length p.1 ∙ length-sets d at (status_put m) in
      stands_as d at _ (status_put m ++ request_put (length e) n) r f
      (ap (λ (g : Message). status_put g ++ request_put (length d) (at + length (status_put g))) (sym u)
      ∙ ap (λ (j : ℕ). status_put m ++ request_put j (at + length (status_put m))) (sym l) ∙ ap (λ (j : ℕ). status_put m ++ request_put (length e) j) (sym p.0))
      (stand_both d at (status_put m) (request_put (length e) n) n r e f p q)

-- ---- the whole reply

behind_is : (room : ℕ) (v w : List ℕ) → behind room v w ≡ v ++ placed room (length v) w
unfolding behind placed
behind_is room v w = go (leb (length v + length w) room)
  where
    go : (t : Bool) → cond t (v ++ w) v ≡ v ++ cond t w []
    go true = refl
    go false = sym (append-nil v)

behind-none : (room : ℕ) (v : List ℕ) → behind room v [] ≡ v
unfolding behind
behind-none room v = ap (λ (w : List ℕ). cond (leb (length v + 0) room) w v) (append-nil v) ∙ cond_same (leb (length v + 0) room) v

module _ (protocol : Protocol) (x : Context) (k : Sent) where
  status_due_lem : put_due protocol k.status x (status (cause_octet 30 ∷ []) (Some (call_state_code k.state)) (Some (attributes_of k.parameters)))
      ≡ cond k.status (message_from protocol (158 ∷ []) (sender_of x) (status_telling (record { start = 0; count = 1 }) k.state k.parameters)) []
  unfolding put_due message_from writable lies sent written table
  status_due_lem = refl

  request_due_lem : put_due protocol k.request x (termination_request x.reference) ≡ cond k.request (message_from protocol (158 ∷ []) (sender_of x) (TerminationRequest x.reference)) []
  unfolding put_due message_from writable sent written table
  request_due_lem = refl

module _ (protocol : Protocol) (own : Own) (identity s d : List ℕ) (x : Context) (sends : Sending) (k : Sent) where
  abbrev ours : List ℕ
  ours = put_of protocol (length d) own identity s x sends

  abbrev whole : List ℕ
  whole = put_all protocol (length d) own identity s x sends k

  all_is : whole ≡ ours ++ pending_of protocol (length d) (length ours) x k
  unfolding put_all pending_of
  all_is =
      let a : List ℕ = placed (length d) (length ours) (cond k.status (message_from protocol (158 ∷ []) (sender_of x) (status_telling (record { start = 0; count = 1 }) k.state k.parameters)) []) in
      let r : List ℕ = cond k.request (message_from protocol (158 ∷ []) (sender_of x) (TerminationRequest x.reference)) [] in
      rw (status_due_lem protocol x k, request_due_lem protocol x k)
      (behind_is (length d) _ r ∙ ap (λ (v : List ℕ). v ++ placed (length d) (length v) r) (behind_is (length d) ours _) ∙ ap (λ (j : ℕ). (ours ++ a) ++ placed (length d) j r) (length-append ours a) ∙ append_assoc ours a _)

  -- `put`: there is room for the count; something is pending, or nothing.
  pub room-left : (n : ℕ) (e : List ℕ) → (n ≡ length ours) × (e ≡ sets d 0 ours) → n ≤ length e
  room-left n e p =
      let l : length e ≡ length d = ap length p.1 ∙ length-sets d 0 ours in
      let w : length ours ≤ length d = put_within protocol (length d) own identity s x sends in
      let a : n ≡ length ours = p.0 in
      omega arith

  pub some-pending : (n : ℕ) (e : List ℕ) → (n ≡ length ours) × (e ≡ sets d 0 ours) → (r : ℕ) (f : List ℕ) → Stands e n (pending_of protocol (length e) n x k) r f
      → (r ≡ length whole) × (f ≡ sets d 0 whole)
  some-pending n e p r f q =
      let l : length e ≡ length d = ap length p.1 ∙ length-sets d 0 ours in
      let t : Stands e n (pending_of protocol (length d) (length ours) x k) r f
      = stands_as e n _ _ r f (ap (λ (j : ℕ). pending_of protocol j (length ours) x k) (sym l) ∙ ap (λ (j : ℕ). pending_of protocol (length e) j x k) (sym p.0)) q in
      let u : Stands d 0 (ours ++ pending_of protocol (length d) (length ours) x k) r f = stand_both d 0 ours _ n r e f (omega (arith, p.0), p.1) t in
      let v : r ≡ 0 + length (ours ++ pending_of protocol (length d) (length ours) x k) = u.0 in
      rw all_is (omega arith, u.1)

  pub none-pending : (k.status || k.request) ≡ false → (n : ℕ) (e : List ℕ) → (n ≡ length ours) × (e ≡ sets d 0 ours) → (n ≡ length whole) × (e ≡ sets d 0 whole)
  unfolding put_all put_due
  none-pending h n e p =
      let q : whole ≡ ours
      = rw (or_left k.status k.request h, or_right k.status k.request h) (behind-none (length d) _ ∙ behind-none (length d) ours) in
      rw q p
    where
      or_left : (a b : Bool) → (a || b) ≡ false → a ≡ false
      or_left true b g = g
      or_left false b g = refl

      or_right : (a b : Bool) → (a || b) ≡ false → b ≡ false
      or_right true b g = never (sym g)
      or_right false b g = g
