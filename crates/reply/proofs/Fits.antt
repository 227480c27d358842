-- The writer never refuses what a step sends: then a reply is the table's octets.
use Prim.Native.Nat.{ℕ, ◌+◌, ◌/◌, ◌%◌, ◌≤◌}
use mathlib.Core.Path.{◌≡◌, refl, ap, ◌∙◌}
use mathlib.Core.List.{List, [], ◌∷◌, ◌++◌, append-nil, append_assoc}
use mathlib.Core.Bool.{Bool, true, false, cond}
use native.Mathlib.Omega.{arith}
use lib.Dec.{leb, ltb}
use lib.ListN.{length, get_or, length-append}
use borrow.Author.Tests.{le-leb, le-ltb, lt-ltb, leb-true, ltb-false}
use Rattle.codes.specs.declared.state.State.{State}
use Rattle.codes.specs.declared.state.State.TheVariants.{U0, U0p, U1, U2, U3, U4, U5, U6, U2sl, U2wr, U2r, U2ws, U2sr, U2nc}
use Rattle.codes.specs.declared.attributes.Parameters.{Parameters}
use Rattle.codes.specs.CallStates.{call_state_code}
use Rattle.codes.specs.Attributes.{attributes_of, weighs}
use Rattle.octets.proofs.Choice.{at_cond}
use Rattle.std.specs.Prelude.{Some}
use Rattle.message.specs.Content.{Content, immediate_setup, setup, termination_request, status}
use Rattle.message.specs.Tables.{fits, table, type_of, written, rows_fit}
use Rattle.codes.specs.declared.protocol.Protocol.{Protocol}
use Rattle.context.specs.declared.Context.{Context}
use Rattle.context.proofs.Whole.{and_right, and_both}
use Rattle.call.specs.declared.Sent.{Sent}
use Rattle.transitions.specs.declared.Send.{Send}
use Rattle.transitions.specs.declared.Send.TheVariants.{Nothing, ImmediateSetup, Setup, TerminationRequest}
use Rattle.call.specs.declared.Sending.{Sending}
use Rattle.call.specs.declared.Sending.TheVariants.{OfRow, Status, ErrorStatus}
use Rattle.call.specs.Step.{silent}
use Rattle.message.specs.declared.Own.{Own}
use Rattle.reply.specs.Reply.{flag_sent, sent, status_of, cause_octet, copied, hearing, row_of, own_of, status_due, request_due, reply_of, put_content, put_row, put_of, behind, put_due, put_all}
use Rattle.reply.proofs.Copied.{telling-length, status-length, copied_is}

code_small : (s : State) → ltb (call_state_code s) 16 ≡ true
unfolding call_state_code
code_small = elim [ U0 ↦ refl | U0p ↦ refl | U1 ↦ refl | U2 ↦ refl | U3 ↦ refl | U4 ↦ refl | U5 ↦ refl | U6 ↦ refl | U2sl ↦ refl | U2wr ↦ refl | U2r ↦ refl | U2ws ↦ refl | U2sr ↦ refl | U2nc ↦ refl ]

weigh_most : (b : Bool) (w : ℕ) → weighs b w ≤ w
unfolding weighs
weigh_most true w = omega arith
weigh_most false w = omega arith

attributes_small : (p : Parameters) → ltb (attributes_of p) 16 ≡ true
unfolding attributes_of
attributes_small p =
    let a : weighs p.datt 8 ≤ 8 = weigh_most _ _ in
    let b : weighs p.uatt 4 ≤ 4 = weigh_most _ _ in
    let c : weighs p.comm 2 ≤ 2 = weigh_most _ _ in
    let d : weighs p.orig 1 ≤ 1 = weigh_most _ _ in
    lt-ltb (weighs p.datt 8 + weighs p.uatt 4 + weighs p.comm 2 + weighs p.orig 1) 16 (omega arith)

-- What fits has at most 251 octets.
module _ (protocol : Protocol) (x : Context) where
  short : (c : Content) → fits protocol (flag_sent x) x.value c ≡ true → length (sent protocol x c) ≤ 251
  unfolding fits sent
  short c e = leb-true _ _ (and_right (rows_fit (table protocol c)) _ (and_right (leb x.value 6) _ e))

  -- So what is put is within the buffer, whatever that is.
  content_within : (room : ℕ) (c : Content) → length (put_content protocol room x c) ≤ room
  unfolding put_content
  content_within room c =
      at_cond (λ (w : List ℕ). length w ≤ room) (ltb room 255) [] _ (λ e. omega arith)
      (λ e.
      let big : 255 ≤ room = ltb-false _ _ e in
      at_cond (λ (w : List ℕ). length w ≤ room) (fits protocol (flag_sent x) x.value c) _ [] (λ f. let l : length (sent protocol x c) ≤ 251 = short c f in omega arith) (λ f. omega arith))

row_within : (protocol : Protocol) (room : ℕ) (own : Own) (identity : List ℕ) (x : Context) (send : Send) → length (put_row protocol room own identity x send) ≤ room
unfolding put_row
row_within protocol room own identity x Nothing = omega arith
row_within protocol room own identity x ImmediateSetup = content_within protocol x room _
row_within protocol room own identity x Setup = content_within protocol x room _
row_within protocol room own identity x TerminationRequest = content_within protocol x room _

pub put_within : (protocol : Protocol) (room : ℕ) (own : Own) (identity s : List ℕ) (x : Context) (sends : Sending) → length (put_of protocol room own identity s x sends) ≤ room
unfolding put_of
put_within protocol room own identity s x (OfRow send) = row_within protocol room own identity x send
put_within protocol room own identity s x (Status cause) = content_within protocol x room _
put_within protocol room own identity s x (ErrorStatus cause) = content_within protocol (hearing s x) room _

module _ (protocol : Protocol) (x : Context) (value : x.value ≤ 6) where
  telling-fits : (cause : List ℕ) (s : State) (p : Parameters) → 1 ≤ length cause → length cause ≤ 246
      → fits protocol (flag_sent x) x.value (status cause (Some (call_state_code s)) (Some (attributes_of p))) ≡ true
  unfolding fits table sent
  telling-fits cause s p low high =
      let c : Content = status cause (Some (call_state_code s)) (Some (attributes_of p)) in
      let l : length (sent protocol x c) ≡ 5 + length cause = telling-length protocol x cause _ _ in
      and_both _ _ (le-leb _ _ value)
      (and_both _ _ (and_both _ _ (and_both _ _ (le-leb 2 (1 + length cause) (omega arith)) (le-leb (1 + length cause) 248 (omega arith))) (and_both _ _ (code_small s) (and_both _ _ (attributes_small p) refl)))
      (le-leb (length (written protocol (flag_sent x) x.value c)) 251 (omega arith)))

  status-fits : (cause : List ℕ) → 1 ≤ length cause → length cause ≤ 246 → fits protocol (flag_sent x) x.value (status_of x cause) ≡ true
  unfolding status_of
  status-fits cause low high = telling-fits cause x.state x.parameters low high

  setup-fits : fits protocol (flag_sent x) x.value (setup x.reference) ≡ true
  unfolding fits table written type_of
  setup-fits = and_both _ _ (le-leb _ _ value) refl

  request_fits : fits protocol (flag_sent x) x.value (termination_request x.reference) ≡ true
  unfolding fits table written type_of
  request_fits = and_both _ _ (le-leb _ _ value) refl

  immediate-length : (own : Own) (identity : List ℕ) → length (written protocol (flag_sent x) x.value (immediate_setup own.key own.classmark identity x.reference)) ≡ 12 + length identity
  unfolding written table
  immediate-length own identity = simp length-append (omega arith)

  immediate-fits : (own : Own) (identity : List ℕ) → own.key ≤ 7 → 1 ≤ length identity → length identity ≤ 8
      → fits protocol (flag_sent x) x.value (immediate_setup own.key own.classmark identity x.reference) ≡ true
  unfolding fits table
  immediate-fits own identity key low high =
      and_both _ _ (le-leb _ _ value)
      (and_both _ _ (and_both _ _ (lt-ltb own.key 8 (omega arith)) (and_both _ _ (and_both _ _ (le-leb 2 (1 + length identity) (omega arith)) (le-leb (1 + length identity) 9 (omega arith))) refl))
      (let l : length (written protocol (flag_sent x) x.value (immediate_setup own.key own.classmark identity x.reference)) ≡ 12 + length identity = immediate-length own identity in
      le-leb (length (written protocol (flag_sent x) x.value (immediate_setup own.key own.classmark identity x.reference))) 251 (omega arith)))

  copied-short : (cause : ℕ) (s : List ℕ) → length (copied protocol x cause s) ≤ 245
  copied-short cause s = rw (copied_is protocol x cause s) (go (leb (length s) 245) refl)
    where
      go : (t : Bool) → leb (length s) 245 ≡ t → length (cond t s []) ≤ 245
      go true e = leb-true _ _ e
      go false e = omega arith

  goes : (room : ℕ) → 255 ≤ room → (c : Content) → fits protocol (flag_sent x) x.value c ≡ true → put_content protocol room x c ≡ sent protocol x c
  unfolding put_content
  goes room big c e = rw (le-ltb room 255 big, e)

  error_fits : (cause : ℕ) (s : List ℕ) → fits protocol (flag_sent x) x.value (status_of x (cause_octet cause ∷ copied protocol x cause s)) ≡ true
  error_fits cause s =
      let h : length (copied protocol x cause s) ≤ 245 = copied-short cause s in
      status-fits (cause_octet cause ∷ copied protocol x cause s) (omega arith) (omega arith)

-- ---- steps in range

-- What is asked of a step that reports a message: the value that is awaited is one, and nothing else was pending. Of any other step nothing is asked.
abbrev pub Orderly : List ℕ → Context → Sent → Sending → Type 0
Orderly s x k (OfRow send) = Unit {0}
Orderly s x k (Status cause) = Unit {0}
Orderly s x k (ErrorStatus cause) = (x.talk.awaiting ≡ true → get_or s 0 0 / 16 % 8 ≤ 6) × (k.status ≡ false) × (k.request ≡ false)

hearing-value : (s : List ℕ) (x : Context) → x.value ≤ 6 → (x.talk.awaiting ≡ true → get_or s 0 0 / 16 % 8 ≤ 6) → (hearing s x).value ≤ 6
unfolding hearing
hearing-value s x value heard = at_cond (λ (y : Context). y.value ≤ 6) x.talk.awaiting _ x heard (λ e. value)

-- What the other messages of a row have at most, and what was pending.
module _ (protocol : Protocol) (x : Context) where
  immediate-few : (own : Own) (identity : List ℕ) → length identity ≤ 8 → length (sent protocol x (immediate_setup own.key own.classmark identity x.reference)) ≤ 20
  unfolding sent written table
  immediate-few own identity high = simp length-append (omega arith)

  setup-few : length (sent protocol x (setup x.reference)) ≤ 20
  unfolding sent written table
  setup-few = omega arith

  terminate_few : length (sent protocol x (termination_request x.reference)) ≤ 20
  unfolding sent written table
  terminate_few = omega arith

  status-few : (k : Sent) → length (status_due protocol x k) ≤ 6
  unfolding status_due sent written table
  status-few k = at_cond (λ (w : List ℕ). length w ≤ 6) k.status _ [] (λ e. omega arith) (λ e. omega arith)

  request_few : (k : Sent) → length (request_due protocol x k) ≤ 6
  unfolding request_due sent written table
  request_few k = at_cond (λ (w : List ℕ). length w ≤ 6) k.request _ [] (λ e. omega arith) (λ e. omega arith)

-- What is due fits, so it is put as it is sent.
module _ (protocol : Protocol) (x : Context) (value : x.value ≤ 6) (k : Sent) where
  due_goes : (t : Bool) (c : Content) → fits protocol (flag_sent x) x.value c ≡ true → put_due protocol t x c ≡ cond t (sent protocol x c) []
  unfolding put_due
  due_goes t c e = rw e

  status_goes : put_due protocol k.status x (status (cause_octet 30 ∷ []) (Some (call_state_code k.state)) (Some (attributes_of k.parameters))) ≡ status_due protocol x k
  unfolding status_due
  status_goes = due_goes k.status _ (telling-fits protocol x value (cause_octet 30 ∷ []) k.state k.parameters (omega arith) (omega arith))

  request_goes : put_due protocol k.request x (termination_request x.reference) ≡ request_due protocol x k
  unfolding request_due
  request_goes = due_goes k.request _ (request_fits protocol x value)

behind-whole : (room : ℕ) (v w : List ℕ) → length v + length w ≤ room → behind room v w ≡ v ++ w
unfolding behind
behind-whole room v w h = rw (le-leb (length v + length w) room h)

-- Where the buffer and each field are in range, what is put is what is sent, and has at most 251 octets.
module _ (protocol : Protocol) (x : Context) (value : x.value ≤ 6) (own : Own) (identity s : List ℕ) (sends : Sending) (k : Sent) (key : own.key ≤ 7)
    (low : 1 ≤ length identity) (high : length identity ≤ 8) (ordered : Orderly s x k sends) where
  row_put : (room : ℕ) → 255 ≤ room → (send : Send) → put_row protocol room own identity x send ≡ row_of protocol own identity x send
  unfolding put_row row_of
  row_put room big Nothing = refl
  row_put room big ImmediateSetup = goes protocol x value room big _ (immediate-fits protocol x value own identity key low high)
  row_put room big Setup = goes protocol x value room big _ (setup-fits protocol x value)
  row_put room big TerminationRequest = goes protocol x value room big _ (request_fits protocol x value)

  own_put : (room : ℕ) → 255 ≤ room → put_of protocol room own identity s x sends ≡ own_of protocol own identity s x sends
  unfolding put_of own_of
  own_put room big = go sends ordered
    where
      go : (m : Sending) → Orderly s x k m → put_of protocol room own identity s x m ≡ own_of protocol own identity s x m
      go (OfRow send) o = row_put room big send
      go (Status cause) o = goes protocol x value room big _ (status-fits protocol x value (cause_octet cause ∷ []) (omega arith) (omega arith))
      go (ErrorStatus cause) o =
          let v : (hearing s x).value ≤ 6 = hearing-value s x value o.0 in
          goes protocol (hearing s x) v room big _ (error_fits protocol (hearing s x) v cause s)

  row-few : (send : Send) → length (row_of protocol own identity x send) ≤ 20
  unfolding row_of
  row-few Nothing = omega arith
  row-few ImmediateSetup = immediate-few protocol x own identity high
  row-few Setup = setup-few protocol x
  row-few TerminationRequest = terminate_few protocol x

  pub reply-short : length (reply_of protocol own identity s x sends k) ≤ 251
  unfolding reply_of own_of status_due request_due
  reply-short = go sends ordered
    where
      -- Few octets, and what was pending behind them.
      few : (w : List ℕ) → length w ≤ 20 → length (w ++ (status_due protocol x k ++ request_due protocol x k)) ≤ 251
      few w h =
          let a : length (status_due protocol x k) ≤ 6 = status-few protocol x k in
          let b : length (request_due protocol x k) ≤ 6 = request_few protocol x k in
          let c : length (w ++ (status_due protocol x k ++ request_due protocol x k)) ≡ length w + length (status_due protocol x k ++ request_due protocol x k) = length-append w _ in
          let d : length (status_due protocol x k ++ request_due protocol x k) ≡ length (status_due protocol x k) + length (request_due protocol x k) = length-append (status_due protocol x k) _ in
          omega arith

      alone : (w : List ℕ) → length w ≤ 251 → k.status ≡ false → k.request ≡ false → length (w ++ (status_due protocol x k ++ request_due protocol x k)) ≤ 251
      alone w h a b = rw (a, b, append-nil w) h

      go : (m : Sending) → Orderly s x k m → length (own_of protocol own identity s x m ++ (status_due protocol x k ++ request_due protocol x k)) ≤ 251
      go (OfRow send) o = few (row_of protocol own identity x send) (row-few send)
      go (Status cause) o =
          let l : length (sent protocol x (status_of x (cause_octet cause ∷ []))) ≡ 5 + 1 = status-length protocol x _ in
          few (own_of protocol own identity s x (Status cause)) (omega arith)
      go (ErrorStatus cause) o =
          let v : (hearing s x).value ≤ 6 = hearing-value s x value o.0 in
          alone (own_of protocol own identity s x (ErrorStatus cause)) (short protocol (hearing s x) _ (error_fits protocol (hearing s x) v cause s)) o.1 o.2

  pub put_is_reply : (room : ℕ) → 255 ≤ room → put_all protocol room own identity s x sends k ≡ reply_of protocol own identity s x sends k
  unfolding put_all reply_of
  put_is_reply room big =
      let w : List ℕ = own_of protocol own identity s x sends in
      let a : List ℕ = status_due protocol x k in
      let b : List ℕ = request_due protocol x k in
      let short : length (w ++ (a ++ b)) ≤ 251 = reply-short in
      let m : length (w ++ (a ++ b)) ≡ length w + length (a ++ b) = length-append w _ in
      let n : length (a ++ b) ≡ length a + length b = length-append a _ in
      let o : length (w ++ a) ≡ length w + length a = length-append w _ in
      rw (own_put room big, status_goes protocol x value k, request_goes protocol x value k)
      (ap (λ (v : List ℕ). behind room v b) (behind-whole room w a (omega arith)) ∙ behind-whole room (w ++ a) b (omega arith) ∙ append_assoc w a b)

-- ---- what a reply hangs on

-- Where the row sends nothing and nothing was pending, there is no reply.
pub nothing-sent : (protocol : Protocol) (own : Own) (identity s : List ℕ) (x : Context) (sends : Sending) (k : Sent) → sends ≡ silent → k.status ≡ false → k.request ≡ false
    → reply_of protocol own identity s x sends k ≡ []
unfolding reply_of own_of row_of status_due request_due
nothing-sent protocol own identity s x sends k e a b = rw (e, a, b)

-- What is sent is a row's, and no STATUS of the step's own.
abbrev pub OfARow : Sending → Type 0
OfARow (OfRow send) = Unit {0}
OfARow (Status cause) = ⊥
OfARow (ErrorStatus cause) = ⊥

-- That hangs on no octets received.
pub row-reply : (protocol : Protocol) (own : Own) (identity s u : List ℕ) (x : Context) (sends : Sending) (k : Sent) → OfARow sends
    → reply_of protocol own identity s x sends k ≡ reply_of protocol own identity u x sends k
unfolding reply_of own_of
row-reply protocol own identity s u x (OfRow send) k e = refl
row-reply protocol own identity s u x (Status cause) k e = absurd e
row-reply protocol own identity s u x (ErrorStatus cause) k e = absurd e
