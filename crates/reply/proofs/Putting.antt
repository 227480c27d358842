-- What the writer answers and leaves is what the contracts of this crate say; a run that is the whole source is the source.
use Prim.Native.Nat.{ℕ, ◌+◌, ◌≤◌}
use mathlib.Core.Path.{◌≡◌, refl, sym, ap, ◌∙◌}
use mathlib.Core.List.{List, [], ◌∷◌}
use mathlib.Core.Bool.{Bool, true, false, cond, not, ◌&&◌}
use native.Mathlib.Omega.{arith}
use lib.Dec.{leb, ltb}
use lib.ListN.{length, take}
use lib.Seq.{sets, length-sets, take-length}
use borrow.Author.Tests.{le-leb}
use Rattle.octets.specs.Run.{part}
use Rattle.octets.proofs.Stores.{part_length, over_start}
use Rattle.codes.specs.declared.state.State.{State}
use Rattle.codes.specs.declared.attributes.Parameters.{Parameters}
use Rattle.codes.specs.CallStates.{call_state_code}
use Rattle.codes.specs.Attributes.{attributes_of}
use Rattle.octets.specs.declared.Run.{Run}
use Rattle.octets.specs.declared.Reference.{Reference}
use Rattle.message.specs.declared.Classmark.{Classmark}
use Rattle.std.specs.Prelude.{Some, Result, Ok, Err}
use Rattle.writing.specs.declared.Unwritten.{Unwritten}
use Rattle.writing.specs.declared.Unwritten.TheVariants.{OutOfRange, ShortBuffer}
use Rattle.message.specs.declared.Message.{Message}
use Rattle.message.specs.declared.Message.TheVariants.{ImmediateSetup, Setup, TerminationRequest, Status}
use Rattle.message.specs.Content.{Content, immediate_setup, setup, termination_request, status, lies}
use Rattle.message.specs.Tables.{written, fits}
use Rattle.writing.specs.Writing.{writable, octets_written, write_answer, write_leaves}
use Rattle.codes.specs.declared.protocol.Protocol.{Protocol}
use Rattle.context.specs.declared.Context.{Context}
use Rattle.context.specs.Talk.{flag_of}
use Rattle.reply.specs.declared.Sender.{Sender}
use Rattle.reply.specs.Reply.{sent, status_of, cause_octet, copied, copy_count, hearing, put_content}
use Rattle.std.specs.Result.{result_unwrap_or}
use Rattle.reply.specs.Put.{sender_of, status_by, status_telling, message_from, put_by, put_from}
use Rattle.reply.proofs.Copied.{copied-part}

answered : (a b : Bool) (w : List ℕ) → result_unwrap_or (cond a (Err ShortBuffer) (cond b (Ok (length w)) (Err OutOfRange))) 0 ≡ length (cond a [] (cond b w []))
answered true b w = refl
answered false true w = refl
answered false false w = refl

left : (a b : Bool) (d w : List ℕ) → cond a d (cond b (sets d 0 w) d) ≡ sets d 0 (cond a [] (cond b w []))
left true b d w = refl
left false true d w = refl
left false false d w = refl

-- `sender_of`: the flag is the opposite of the one expected.
pub opposite_sent : (x : Context) (f : Bool) → f ≡ flag_of x → record { flag = not f; value = x.value; state = x.state; parameters = x.parameters } ≡ sender_of x
opposite_sent x f e = rw e

-- `put_message`: the count is what the writer answers.
module _ (protocol : Protocol) (d s : List ℕ) (y : Sender) (m : Message) where
  pub put_count : (w : Result ℕ Unwritten) (n : ℕ) → w ≡ write_answer protocol d s y.flag y.value m → n ≡ result_unwrap_or w 0 → n ≡ length (put_from protocol (length d) s y m)
  unfolding write_answer put_from message_from
  put_count w n p q = q ∙ ap (λ (r : Result ℕ Unwritten). result_unwrap_or r 0) p ∙ answered (ltb (length d) 255) (writable protocol s y.flag y.value m) (octets_written protocol s y.flag y.value m)

  pub put_leaves_lem : (after : List ℕ) → after ≡ write_leaves protocol d s y.flag y.value m → after ≡ sets d 0 (put_from protocol (length d) s y m)
  unfolding write_leaves put_from message_from
  put_leaves_lem after p = p ∙ left (ltb (length d) 255) (writable protocol s y.flag y.value m) d (octets_written protocol s y.flag y.value m)

-- `status_telling`: the state as its code, the parameters as attributes.
pub telling : (cause : Run) (state : State) (p : Parameters) (code attributes : ℕ) → code ≡ call_state_code state → attributes ≡ attributes_of p
    → Status cause (Some code) (Some attributes) ≡ status_telling cause state p
telling cause state p code attributes e f = rw (e, f)

-- A message whose runs lie within the source is written as its content.
module _ (protocol : Protocol) (room : ℕ) (s : List ℕ) (y : Sender) where
  lying : (t : Bool) (c c' : Content) → t ≡ true → c ≡ c'
      → cond (ltb room 255) [] (cond (t && fits protocol y.flag y.value c) (written protocol y.flag y.value c) []) ≡ put_by protocol room y c'
  unfolding put_by
  lying t c c' e p = rw (e, p)

  pub immediate_from : (key : ℕ) (classmark : Classmark) (r : Reference)
      → put_from protocol room s y (ImmediateSetup key classmark (record { start = 0; count = length s }) r) ≡ put_by protocol room y (immediate_setup key classmark s r)
  unfolding put_from message_from writable lies
  immediate_from key classmark r =
      lying (leb (0 + length s) (length s)) (immediate_setup key classmark (part s 0 (length s)) r) (immediate_setup key classmark s r) (le-leb (0 + length s) (length s) (omega arith)) (ap (λ (i : List ℕ). immediate_setup key classmark i r) (take-length s))

  pub status_from : (zeros cause : List ℕ) (count : ℕ) → s ≡ sets zeros 0 cause → length zeros ≡ 246 → length cause ≡ 1 + count → count ≤ 245
      → (m : Message) → m ≡ status_telling (record { start = 0; count = 1 + count }) y.state y.parameters
      → put_from protocol room s y m ≡ put_by protocol room y (status_by y cause)
  unfolding put_from message_from writable lies status_by
  status_from zeros cause count e z l h m p =
      let n : length s ≡ 246 = ap length e ∙ length-sets zeros 0 cause ∙ z in
      let k : length cause ≤ length zeros = omega arith in
      let t : take (1 + count) s ≡ cause = ap (λ (j : ℕ). take j s) (sym l) ∙ ap (take (length cause)) e ∙ over_start zeros cause k in
      ap (put_from protocol room s y) p
      ∙ lying (leb (0 + (1 + count)) (length s)) (status (part s 0 (1 + count)) (Some (call_state_code y.state)) (Some (attributes_of y.parameters))) (status_by y cause)
      (le-leb (0 + (1 + count)) (length s) (omega arith)) (rw t)

  pub setup_from : (r : Reference) → put_from protocol room s y (Setup r) ≡ put_by protocol room y (setup r)
  unfolding put_from message_from writable put_by
  setup_from r = refl

  pub request_from : (r : Reference) → put_from protocol room s y (TerminationRequest r) ≡ put_by protocol room y (termination_request r)
  unfolding put_from message_from writable put_by
  request_from r = refl

-- What is put for the sender that a context makes is what is put in the context.
module _ (protocol : Protocol) (room : ℕ) (x : Context) (y : Sender) (e : y ≡ sender_of x) where
  pub by-context : (c : Content) → put_by protocol room y c ≡ put_content protocol room x c
  unfolding put_by put_content sent
  by-context c = rw e

  pub status-by : (cause : List ℕ) → put_by protocol room y (status_by y cause) ≡ put_content protocol room x (status_of x cause)
  unfolding status_by status_of
  status-by cause = by-context (status_by y cause) ∙ ap (λ (z : Sender). put_content protocol room x (status_by z cause)) e

-- A report is sent in the context that hears it.
pub error_from : (protocol : Protocol) (room : ℕ) (s : List ℕ) (x h : Context) (y : Sender) (cause count : ℕ) → h ≡ hearing s x → y ≡ sender_of h → count ≡ copy_count (length s)
    → put_by protocol room y (status_by y (cause_octet cause ∷ part s 0 count))
    ≡ put_content protocol room (hearing s x) (status_of (hearing s x) (cause_octet cause ∷ copied protocol (hearing s x) cause s))
error_from protocol room s x h y cause count p q e =
    status-by protocol room (hearing s x) y (q ∙ ap sender_of p) _
    ∙ ap (λ (w : List ℕ). put_content protocol room (hearing s x) (status_of (hearing s x) (cause_octet cause ∷ w))) (ap (part s 0) e ∙ copied-part protocol (hearing s x) cause s)

-- The octets of a cause and a copy, counted.
pub cause_length : (c : ℕ) (s : List ℕ) (count : ℕ) → count ≤ length s → length (c ∷ part s 0 count) ≡ 1 + count
cause_length c s count h = let l : length (part s 0 count) ≡ count = part_length s 0 count (omega arith) in omega arith

-- What was put under one name was put under another for the same octets.
pub put_as : (d after w v : List ℕ) (n : ℕ) → w ≡ v → (n ≡ length w) × (after ≡ sets d 0 w) → (n ≡ length v) × (after ≡ sets d 0 v)
put_as d after w v n e p = (p.0 ∙ ap length e, p.1 ∙ ap (sets d 0) e)

-- The same for one case of what is sent.
pub put_case : {A : Type 0} (put : A → List ℕ) (d : List ℕ) (sends m : A) (after w : List ℕ) (n : ℕ) → sends ≡ m → w ≡ put m → (n ≡ length w) × (after ≡ sets d 0 w)
    → (n ≡ length (put sends)) × (after ≡ sets d 0 (put sends))
put_case put d sends m after w n e q p = put_as d after w _ n (q ∙ ap put (sym e)) p
