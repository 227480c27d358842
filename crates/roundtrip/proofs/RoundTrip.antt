-- Demand 2: all nine messages are read and written by clauses 8 and 9, and reading what was written gives the message back.
use Prim.Native.Nat.{ℕ, ◌+◌, ◌*◌, ◌/◌, ◌%◌, ◌≤◌, ◌<◌}
use mathlib.Core.Path.{◌≡◌, refl, sym, ap, subst, ◌∙◌}
use mathlib.Core.List.{List, [], ◌∷◌, ◌++◌, append-nil}
use mathlib.Core.Bool.{Bool, true, false}
use native.Mathlib.Omega.{arith}
use lib.ListN.{length, take, drop}
use lib.Seq.{sets, sets-eq, take-length, take_at, drop_at}
use lib.Dec.{leb, ltb}
use borrow.Author.Tests.{le-leb, lt-leb, ltb-false}
use Rattle.octets.proofs.Stores.{over_start}
use Rattle.codes.specs.declared.protocol.Protocol.{Protocol}
use Rattle.codes.specs.declared.protocol.Protocol.TheVariants.{Broadcast, Group}
use Rattle.codes.specs.Protocol.{discriminator}
use Rattle.codes.proofs.Protocols.{discriminator-small}
use Rattle.message.specs.declared.Message.{Message}
use Rattle.message.specs.declared.Message.TheVariants.{
  Connect,
  GetStatus,
  ImmediateSetup,
  SetParameter,
  Setup,
  Status,
  Termination,
  TerminationReject,
  TerminationRequest,
}
use Rattle.std.specs.Prelude.{Some, None, Ok}
use Rattle.message.specs.Content.{
  Content,
  content_of,
  runs_lie,
  reference_octets,
  connect,
  get_status,
  immediate_setup,
  set_parameter,
  setup,
  status,
  termination,
  termination_reject,
  termination_request,
}
use Rattle.message.specs.Tables.{head_of, type_of, table, counted, written, fits}
use Rattle.message.specs.Reading.{body_of, read_message}
use Rattle.message.proofs.Bodies.{head_good}
use Rattle.writing.specs.Writing.{writable, write_answer, write_leaves}
use Rattle.writing.specs.Bodies.{half_octets}
use Rattle.limits.proofs.Tests.{and_right}
use Rattle.roundtrip.specs.Back.{Says, GivesBack, Stood, Told}
use Rattle.roundtrip.proofs.Drawn.{RejectDrawn, Drawn, Fitting, fitting}
use Rattle.roundtrip.proofs.ByKind.{
  run,
  connect-back,
  parameter_back,
  setup-back,
  request_back,
  termination-back,
  reject_octets,
  reject_run,
  reject_back,
  immediate,
  immediate-back,
  bare-back,
  identified-back,
  status-back,
}

-- The first octet as it was written.
head_low : (protocol : Protocol) (f : Bool) (v : ℕ) → head_of protocol f v % 16 ≡ discriminator protocol
unfolding head_of
head_low protocol true v = let d : discriminator protocol ≤ 1 = discriminator-small protocol in omega arith
head_low protocol false v = let d : discriminator protocol ≤ 1 = discriminator-small protocol in omega arith

head_flag : (protocol : Protocol) (f : Bool) (v : ℕ) → v ≤ 6 → leb 128 (head_of protocol f v) ≡ f
unfolding head_of
head_flag protocol true v h = le-leb 128 (discriminator protocol + 16 * (8 + v)) (omega arith)
head_flag protocol false v h = let d : discriminator protocol ≤ 1 = discriminator-small protocol in lt-leb 128 (discriminator protocol + 16 * v) (omega arith)

head_value : (protocol : Protocol) (f : Bool) (v : ℕ) → v ≤ 6 → head_of protocol f v / 16 % 8 ≡ v
unfolding head_of
head_value protocol true v h = let d : discriminator protocol ≤ 1 = discriminator-small protocol in omega arith
head_value protocol false v h = let d : discriminator protocol ≤ 1 = discriminator-small protocol in omega arith

-- Behind a first octet that was written, and a type, the body decides.
module _ (protocol : Protocol) (f : Bool) (v kind : ℕ) (x : List ℕ) (c : Content) (m : Message) (six : v ≤ 6) (low : kind < 64)
    (few : length (head_of protocol f v ∷ kind ∷ x) ≤ 251) where
  gives : Ok m ≡ body_of protocol (head_of protocol f v ∷ kind ∷ x) kind → content_of (head_of protocol f v ∷ kind ∷ x) m ≡ c → GivesBack protocol (head_of protocol f v ∷ kind ∷ x) f v c
  gives e same =
      let s : List ℕ = head_of protocol f v ∷ kind ∷ x in
      let q : kind % 64 ≡ kind = omega arith in
      let r : read_message protocol s ≡ Ok (record { flag = f; value = v; message = m }) =
      sym (head_good protocol s (Ok m) few (omega arith) (head_low protocol f v) (omega arith) (rw q e)) ∙ rw (head_flag protocol f v six, head_value protocol f v six) in
      subst (Says s f v c) (sym r) (refl, refl, same)

-- The octets of a message, with the empty end of its last row left out.
plain : (protocol : Protocol) (f : Bool) (v : ℕ) (c : Content) → List ℕ
plain protocol f v (connect r o) = head_of protocol f v ∷ 0x33 ∷ r.first ∷ r.second ∷ r.third ∷ r.fourth ∷ (o + 16 * 0) ∷ []
plain protocol f v (get_status None) = head_of protocol f v ∷ 0x39 ∷ []
plain protocol f v (get_status (Some i)) = head_of protocol f v ∷ 0x39 ∷ 0x17 ∷ counted i
plain protocol f v (immediate_setup k c i r) = immediate (head_of protocol f v) (0 + 16 * k) c i r
plain protocol f v (set_parameter a) = head_of protocol f v ∷ 0x3A ∷ (a + 16 * 0) ∷ []
plain protocol f v (setup r) = head_of protocol f v ∷ 0x32 ∷ reference_octets r
plain protocol f v (status c x y) = head_of protocol f v ∷ 0x38 ∷ length c ∷ (c ++ (half_octets 0xA x ++ half_octets 0xB y))
plain protocol f v (termination c) = head_of protocol f v ∷ 0x34 ∷ counted c
plain protocol f v (termination_reject c) = head_of protocol f v ∷ 0x36 ∷ reject_octets protocol c
plain protocol f v (termination_request r) = head_of protocol f v ∷ 0x35 ∷ reference_octets r

reject_is : (protocol : Protocol) (f : Bool) (v : ℕ) (c : List ℕ) → written protocol f v (termination_reject c) ≡ plain protocol f v (termination_reject c)
unfolding written type_of table plain
reject_is Broadcast f v c = ap (λ (x : List ℕ). head_of Broadcast f v ∷ 0x36 ∷ length c ∷ x) (append-nil c)
reject_is Group f v c = ap (λ (x : List ℕ). head_of Group f v ∷ 0x36 ∷ x) (append-nil c)

plain_is : (protocol : Protocol) (f : Bool) (v : ℕ) (c : Content) → written protocol f v c ≡ plain protocol f v c
unfolding written type_of table plain
plain_is protocol f v (connect r o) = refl
plain_is protocol f v (get_status None) = refl
plain_is protocol f v (get_status (Some i)) = ap (λ (x : List ℕ). head_of protocol f v ∷ 0x39 ∷ 0x17 ∷ length i ∷ x) (append-nil i)
plain_is protocol f v (immediate_setup k c i r) = refl
plain_is protocol f v (set_parameter a) = refl
plain_is protocol f v (setup r) = refl
plain_is protocol f v (status c x y) =
    ap (λ (t : List ℕ). head_of protocol f v ∷ 0x38 ∷ length c ∷ (c ++ (half_octets 0xA x ++ t))) (append-nil (half_octets 0xB y))
plain_is protocol f v (termination c) = ap (λ (x : List ℕ). head_of protocol f v ∷ 0x34 ∷ length c ∷ x) (append-nil c)
plain_is protocol f v (termination_reject c) = reject_is protocol f v c
plain_is protocol f v (termination_request r) = refl

-- The cause of a TERMINATION REJECT is found where it was written.
reject_same : (protocol : Protocol) (c : List ℕ) → RejectDrawn protocol c → (h : ℕ)
    → content_of (h ∷ 0x36 ∷ reject_octets protocol c) (TerminationReject (reject_run protocol c)) ≡ termination_reject c
reject_same Broadcast c d h = ap termination_reject (take-length c)
reject_same Group c d h = ap termination_reject (ap (λ (n : ℕ). take n c) (sym d) ∙ take-length c)

plain_back : (protocol : Protocol) (f : Bool) (v : ℕ) (c : Content) → v ≤ 6 → Drawn protocol c → length (plain protocol f v c) ≤ 251 → GivesBack protocol (plain protocol f v c) f v c
unfolding plain
plain_back protocol f v (connect r o) h d few =
    gives protocol f v 0x33 _ (connect r o) (Connect r o) h (omega arith) few (connect-back protocol (head_of protocol f v) r o (o + 16 * 0) d (omega arith)) refl
plain_back protocol f v (get_status None) h d few =
    gives protocol f v 0x39 _ (get_status None) (GetStatus None) h (omega arith) few (bare-back protocol (head_of protocol f v)) refl
plain_back protocol f v (get_status (Some i)) h d few =
    gives protocol f v 0x39 _ (get_status (Some i)) (GetStatus (Some (run 4 (length i)))) h (omega arith) few
    (identified-back (head_of protocol f v) i d.0 d.1 protocol) (ap (λ (j : List ℕ). get_status (Some j)) (take-length i))
plain_back protocol f v (immediate_setup k c i r) h d few =
    gives protocol f v 0x31 _ (immediate_setup k c i r) (ImmediateSetup k c (run 8 (length i)) r) h (omega arith) few
    (immediate-back protocol (head_of protocol f v) k (0 + 16 * k) c i r d.0 (omega arith) d.1.0 d.1.1)
    (ap (λ (j : List ℕ). immediate_setup k c j r) (take_at i (reference_octets r) (length i) refl))
plain_back protocol f v (set_parameter a) h d few =
    gives protocol f v 0x3A _ (set_parameter a) (SetParameter a) h (omega arith) few (parameter_back protocol (head_of protocol f v) a (a + 16 * 0) d (omega arith)) refl
plain_back protocol f v (setup r) h d few = gives protocol f v 0x32 _ (setup r) (Setup r) h (omega arith) few (setup-back protocol (head_of protocol f v) r) refl
plain_back protocol f v (status c x y) h d few =
    gives protocol f v 0x38 _ (status c x y) (Status (run 3 (length c)) x y) h (omega arith) few
    (status-back protocol (head_of protocol f v) c x y d.0.0 d.0.1 d.1 d.2)
    (ap (λ (j : List ℕ). status j x y) (take_at c (half_octets 0xA x ++ half_octets 0xB y) (length c) refl))
plain_back protocol f v (termination c) h d few =
    gives protocol f v 0x34 _ (termination c) (Termination (run 3 (length c))) h (omega arith) few
    (termination-back protocol (head_of protocol f v) c d.0 d.1) (ap termination (take-length c))
plain_back protocol f v (termination_reject c) h d few =
    gives protocol f v 0x36 _ (termination_reject c) (TerminationReject (reject_run protocol c)) h (omega arith) few
    (reject_back protocol (head_of protocol f v) c d) (reject_same protocol c d (head_of protocol f v))
plain_back protocol f v (termination_request r) h d few =
    gives protocol f v 0x35 _ (termination_request r) (TerminationRequest r) h (omega arith) few (request_back protocol (head_of protocol f v) r) refl

-- Reading the octets of any message that fits its table gives flag, transaction value and content back.
pub table-back : (protocol : Protocol) (f : Bool) (v : ℕ) (c : Content) → fits protocol f v c ≡ true → GivesBack protocol (written protocol f v c) f v c
table-back protocol f v c e =
    let p : Fitting protocol f v c = fitting protocol f v c e in
    let few : length (plain protocol f v c) ≤ 251 = subst (λ (s : List ℕ). length s ≤ 251) (plain_is protocol f v c) p.few in
    subst (λ (s : List ℕ). GivesBack protocol s f v c) (sym (plain_is protocol f v c)) (plain_back protocol f v c p.six p.drawn few)

stored : (d xs : List ℕ) → length xs ≤ length d → drop (length xs) (sets d 0 xs) ≡ drop (length xs) d
stored d xs h =
    let k : 0 + length xs ≤ length d = omega arith in
    let z : 0 + length xs ≡ length xs = omega arith in
    ap (drop (length xs)) (sets-eq xs d 0 k) ∙ drop_at xs (drop (0 + length xs) d) (length xs) refl ∙ ap (λ (n : ℕ). drop n d) z

pub writable-fits : (protocol : Protocol) (s : List ℕ) (f : Bool) (v : ℕ) (m : Message) → writable protocol s f v m ≡ true → fits protocol f v (content_of s m) ≡ true
unfolding writable
writable-fits protocol s f v m e = and_right (runs_lie s m) _ e

-- The writer's octets are those of the table, as many as it says, and what stands behind them is as it was; a refusal changes nothing.
pub write_told : (protocol : Protocol) (d s : List ℕ) (f : Bool) (v : ℕ) (m : Message) → Told protocol d s f v m (write_leaves protocol d s f v m) (write_answer protocol d s f v m)
unfolding write_answer write_leaves
write_told protocol d s f v m = go (ltb (length d) 255) (writable protocol s f v m) refl refl
  where
    go : (a b : Bool) → ltb (length d) 255 ≡ a → writable protocol s f v m ≡ b → Told protocol d s f v m (write_leaves protocol d s f v m) (write_answer protocol d s f v m)
    go true b p q = rw p refl
    go false false p q = rw (p, q) refl
    go false true p q =
        let e : fits protocol f v (content_of s m) ≡ true = writable-fits protocol s f v m q in
        let few : length (written protocol f v (content_of s m)) ≤ 251 = (fitting protocol f v (content_of s m) e).few in
        let room : 255 ≤ length d = ltb-false _ _ p in
        rw (p, q) (record {
          octets = over_start d (written protocol f v (content_of s m)) (omega arith);
          behind = stored d (written protocol f v (content_of s m)) (omega arith);
          back = table-back protocol f v (content_of s m) e;
        })

-- Reading what `write` wrote gives flag, transaction value and message back, whatever stood in the buffer.
pub written_back : (protocol : Protocol) (d s : List ℕ) (f : Bool) (v : ℕ) (m : Message) (n : ℕ) → write_answer protocol d s f v m ≡ Ok n
    → GivesBack protocol (take n (write_leaves protocol d s f v m)) f v (content_of s m)
written_back protocol d s f v m n e =
    let t : Stood protocol d s f v m (write_leaves protocol d s f v m) n = subst (Told protocol d s f v m (write_leaves protocol d s f v m)) e (write_told protocol d s f v m) in
    subst (λ (x : List ℕ). GivesBack protocol x f v (content_of s m)) (sym t.octets) t.back
