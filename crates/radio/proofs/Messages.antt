-- A reply of answer 0 is at most two messages: two are SETUP and STATUS, or STATUS and TERMINATION REQUEST, each of six octets, and no other reply has twelve.
use Prim.Native.Nat.{ℕ, ◌+◌, ◌≤◌}
use mathlib.Core.Path.{◌≡◌, refl, ap, ◌∙◌}
use mathlib.Core.List.{List, [], ◌∷◌, ◌++◌, append-nil}
use mathlib.Core.Logic.{inl, inr}
use mathlib.Core.Bool.{true, false, cond}
use native.Mathlib.Omega.{arith}
use lib.ListN.{length, take, drop, length-append}
use lib.Seq.{take_at, drop_at}
use Rattle.octets.proofs.Choice.{at_cond}
use Rattle.codes.specs.declared.state.State.TheVariants.{U0, U1}
use Rattle.codes.specs.declared.protocol.Protocol.{Protocol}
use Rattle.std.specs.Prelude.{Option, Some}
use Rattle.octets.specs.declared.Run.{Run}
use Rattle.message.specs.declared.Message.TheVariants.{GetStatus}
use Rattle.message.specs.declared.Own.{Own}
use Rattle.message.specs.Content.{Content, immediate_setup, setup, termination_request, status}
use Rattle.message.specs.Tables.{table, type_of, written}
use Rattle.version.specs.declared.Table.{Table}
use Rattle.version.specs.declared.Table.TheVariants.{Group}
use Rattle.version.specs.Version.{protocol_of}
use Rattle.context.specs.declared.Context.{Context}
use Rattle.context.specs.States.{same, among}
use Rattle.fitness.specs.Tables.{sub_states, fit_of}
use Rattle.transitions.specs.declared.Send.TheVariants.{Nothing, ImmediateSetup, Setup, TerminationRequest}
use Rattle.call.specs.declared.Due.{Due}
use Rattle.call.specs.declared.Due.TheVariants.{Steps}
use Rattle.call.specs.declared.Event.TheVariants.{Received}
use Rattle.call.specs.declared.Sending.{Sending}
use Rattle.call.specs.declared.Sending.TheVariants.{OfRow, Status, ErrorStatus}
use Rattle.call.specs.declared.Sent.{Sent}
use Rattle.call.specs.declared.Settled.{Settled}
use Rattle.call.specs.Due.{settled_by}
use Rattle.call.specs.Waiting.{terminating, given, comes, a_request, a_status}
use Rattle.call.proofs.Together.{Together, together}
use Rattle.call.proofs.Waits.{sent_at_once, status_at_once}
use Rattle.call.proofs.Runs.{behind_a_status, nothing-before}
use Rattle.reply.specs.Reply.{sent, status_of, row_of, own_of, status_due, request_due, reply_of}
use Rattle.reply.proofs.Copied.{telling-length}
use Rattle.radio.specs.declared.Happened.{Happened}
use Rattle.radio.specs.Step.{event_of, told_due, due_to, reacted_to, Reaction, reacted, refusal_of, step_of}
use Rattle.radio.specs.Messages.{Pair, response, Two, Parted}
use Rattle.radio.proofs.Range.{in_range}
use Rattle.radio.proofs.Reacting.{step_by_lem, of_step}

module _ (protocol : Protocol) (x : Context) where
  -- ---- how long each message is

  setup_six : length (sent protocol x (setup x.reference)) ≡ 6
  unfolding sent written table
  setup_six = refl

  request_six : length (sent protocol x (termination_request x.reference)) ≡ 6
  unfolding sent written table
  request_six = refl

  telling_six : (cause state attributes : ℕ) → length (sent protocol x (status (cause ∷ []) (Some state) (Some attributes))) ≡ 6
  telling_six cause state attributes = telling-length protocol x (cause ∷ []) state attributes

  immediate-length : (own : Own) (identity : List ℕ) → length (sent protocol x (immediate_setup own.key own.classmark identity x.reference)) ≡ 12 + length identity
  unfolding sent written table
  immediate-length own identity = simp length-append (omega arith)

  immediate-longer : (own : Own) (identity : List ℕ) → 1 ≤ length identity → length (sent protocol x (immediate_setup own.key own.classmark identity x.reference)) ≡ 12 → ⊥
  immediate-longer own identity low e = omega (arith, e, immediate-length own identity)

  -- ---- none, one and two

  parted_none : Parted protocol x []
  parted_none = record { twelve = λ e. let z : ⊥ = omega (arith, e) in absurd z; other = λ n. inl refl }

  parted_one : (m : Content) → (length (sent protocol x m) ≡ 12 → ⊥) → Parted protocol x (sent protocol x m)
  parted_one m n = record { twelve = λ e. absurd (n e); other = λ k. inr (m, refl) }

  parted_six : (m : Content) → length (sent protocol x m) ≡ 6 → Parted protocol x (sent protocol x m)
  parted_six m l = parted_one m (λ e. omega (arith, e, l))

  parted_two : (a b : Content) → Pair a b → length (sent protocol x a) ≡ 6 → length (sent protocol x b) ≡ 6 → Parted protocol x (sent protocol x a ++ sent protocol x b)
  parted_two a b p l m = record {
    twelve = λ e. record { first = a; second = b; pair = p; joined = refl; first_six = l; second_six = m };
    other = λ n. absurd (n (length-append (sent protocol x a) (sent protocol x b) ∙ rw (l, m)));
  }

  -- ---- the reply

  module _ (k : Sent) where
    abbrev telling : Content
    telling = response k.state k.parameters

    abbrev requesting : Content
    requesting = termination_request x.reference

    -- What waited, alone.
    waited_parted : Parted protocol x (status_due protocol x k ++ request_due protocol x k)
    unfolding status_due request_due type_of
    waited_parted =
        at_cond (λ v. Parted protocol x (v ++ cond k.request (sent protocol x requesting) [])) k.status (sent protocol x telling) []
        (λ a. at_cond (λ w. Parted protocol x (sent protocol x telling ++ w)) k.request (sent protocol x requesting) []
        (λ b. parted_two telling requesting (inr (refl, refl)) (telling_six _ _ _) request_six)
        (λ b. rw (append-nil (sent protocol x telling)) (parted_six telling (telling_six _ _ _))))
        (λ a. at_cond (Parted protocol x) k.request (sent protocol x requesting) [] (λ b. parted_six requesting request_six) (λ b. parted_none))

    -- A message with nothing behind it, and SETUP, which may have a STATUS behind it.
    alone_parted : (m : Content) → Parted protocol x (sent protocol x m) → (k.status ≡ false) × (k.request ≡ false)
        → Parted protocol x (sent protocol x m ++ (status_due protocol x k ++ request_due protocol x k))
    unfolding status_due request_due
    alone_parted m p n = rw (n.0, n.1, append-nil (sent protocol x m)) p

    setup_parted : k.request ≡ false → Parted protocol x (sent protocol x (setup x.reference) ++ (status_due protocol x k ++ request_due protocol x k))
    unfolding status_due request_due type_of
    setup_parted n =
        rw (n, append-nil (cond k.status (sent protocol x telling) []))
        (at_cond (λ v. Parted protocol x (sent protocol x (setup x.reference) ++ v)) k.status (sent protocol x telling) []
        (λ a. parted_two (setup x.reference) telling (inl (refl, refl)) setup_six (telling_six _ _ _))
        (λ a. rw (append-nil (sent protocol x (setup x.reference))) (parted_six (setup x.reference) setup_six)))

  reply_parted : (own : Own) (identity s : List ℕ) → 1 ≤ length identity → (t : Settled) → t.answer ≡ 0 → (m : Sending) → Together t m → Parted protocol x (reply_of protocol own identity s x m t.sent)
  unfolding reply_of own_of row_of status_of
  reply_parted own identity s low t zero (OfRow Nothing) g = waited_parted t.sent
  reply_parted own identity s low t zero (OfRow ImmediateSetup) g = alone_parted t.sent _ (parted_one _ (immediate-longer own identity low)) g
  reply_parted own identity s low t zero (OfRow Setup) g = setup_parted t.sent g
  reply_parted own identity s low t zero (OfRow TerminationRequest) g = alone_parted t.sent _ (parted_six _ request_six) g
  reply_parted own identity s low t zero (Status cause) g = alone_parted t.sent _ (parted_six _ (telling_six _ _ _)) g
  reply_parted own identity s low t zero (ErrorStatus cause) g = absurd (g.0 zero)

-- By any table, and so by that of a group call. A context that is not fit is refused, with answer 7.
pub step_parted : (table : Table) (own : Own) (identity : List ℕ) (room : ℕ) (x : Context) (h : Happened) (s : List ℕ) → (step_of table own identity room x h s).answer ≡ 0
    → Parted (protocol_of table) (step_of table own identity room x h s).context (step_of table own identity room x h s).reply
unfolding reacted_to
step_parted table own identity room x h s =
    of_step table own identity room x h s (λ r. r.answer ≡ 0 → Parted (protocol_of table) r.context r.reply) (λ e. parted_none _ _)
    (λ o e.
    let t : Settled = reacted_to table identity x h s in
    reply_parted (protocol_of table) t.context own identity s o.least t e t.sends (together table x o.fit (due_to table identity x h s)))

-- So a host that sends the first six octets of twelve, and then the rest, sends each message by itself.
pub sent-one-by-one : (protocol : Protocol) (x : Context) (reply : List ℕ) → (t : Two protocol x reply) → (take 6 reply ≡ sent protocol x t.first) × (drop 6 reply ≡ sent protocol x t.second)
sent-one-by-one protocol x reply t = (
  ap (take 6) t.joined ∙ take_at (sent protocol x t.first) (sent protocol x t.second) 6 t.first_six,
  ap (drop 6) t.joined ∙ drop_at (sent protocol x t.first) (sent protocol x t.second) 6 t.first_six,
)

-- ---- what waits in a group call, as octets

module _ (own : Own) (identity : List ℕ) (room : ℕ) (x : Context) (h : Happened) (s : List ℕ) (free : refusal_of Group x own.key (length identity) h (length s) room ≡ 0) where
  abbrev step : Reaction
  step = step_of Group own identity room x h s

  abbrev group : Protocol
  group = protocol_of Group

  fit : fit_of Group x ≡ true
  fit = (in_range Group x own.key (length identity) h (length s) room free).fit

  reacts : (t : Settled) → reacted_to Group identity x h s ≡ t → step ≡ reacted group own identity s t
  reacts t e = step_by_lem Group own identity room x h s ∙ rw (free, e)

  -- Event 4 with ORIG and COMM true: a TERMINATION REQUEST.
  pub request_octets : h.number ≡ 4 → among x.state (U1 ∷ sub_states) ≡ true → x.parameters.orig ≡ true → x.parameters.comm ≡ true
      → step ≡ record { answer = 0; reason = 0; context = terminating x; actions = 0; reply = sent group (terminating x) (termination_request x.reference) }
  unfolding reacted_to due_to told_due event_of settled_by reply_of own_of row_of status_due request_due
  request_octets number there owns speaks = reacts (comes (terminating x) 0 (a_request x)) (rw number (sent_at_once x fit there owns speaks))

  -- GET STATUS with COMM true: a STATUS with cause 30.
  pub status-octets : (mode value : ℕ) (asker : Option Run) → due_to Group identity x h s ≡ Steps (Received mode value (GetStatus asker)) → same x.state U0 ≡ false → x.parameters.comm ≡ true
      → step ≡ record { answer = 0; reason = 0; context = given value x; actions = 0; reply = sent group (given value x) (response x.state x.parameters) }
  unfolding reacted_to settled_by reply_of own_of row_of status_due request_due
  status-octets mode value asker due called speaks =
      reacts (comes (given value x) 0 (a_status x)) (rw due (status_at_once x fit called mode value asker speaks)) ∙ rw (append-nil (sent group (given value x) (response x.state x.parameters)))

  -- Where a request goes out that a STATUS waited with: the STATUS, and behind it the TERMINATION REQUEST.
  pub both_octets : x.talk.status ≡ true → (reacted_to Group identity x h s).sent.request ≡ true
      → (let y : Context = step.context in
      let k : Sent = (reacted_to Group identity x h s).sent in
      step.reply ≡ sent group y (response k.state k.parameters) ++ sent group y (termination_request y.reference))
  unfolding reacted_to reply_of own_of row_of status_due request_due
  both_octets waits goes =
      let due : Due = due_to Group identity x h s in
      let e : step ≡ reacted group own identity s (reacted_to Group identity x h s) = reacts _ refl in
      rw (e, nothing-before x fit due goes, behind_a_status x fit due waits goes, goes)
