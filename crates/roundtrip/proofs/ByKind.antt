-- What was written of each kind is read as that kind.
use Prim.Native.Nat.{ℕ, ◌+◌, ◌*◌, ◌/◌, ◌%◌, ◌≤◌, ◌<◌}
use mathlib.Core.Path.{◌≡◌, refl, sym, ap, ◌∙◌}
use mathlib.Core.List.{List, [], ◌∷◌, ◌++◌}
use mathlib.Core.Bool.{true, false}
use native.Mathlib.Nat.{add-zero}
use native.Mathlib.Omega.{arith}
use lib.ListN.{length, get_or, length-append}
use lib.Seq.{get_or-append-add}
use borrow.Author.Tests.{le-leb}
use Rattle.codes.specs.declared.protocol.Protocol.{Protocol}
use Rattle.codes.specs.declared.protocol.Protocol.TheVariants.{Broadcast, Group}
use Rattle.octets.specs.declared.Run.{Run}
use Rattle.std.specs.Prelude.{Option, Some, None, Ok}
use Rattle.element.specs.Elements.{within, next_element, element_from}
use Rattle.element.specs.Counted.{counted_at}
use Rattle.element.proofs.Elements.{
  within-inside,
  within_under,
  within_over,
  from_end,
  from_here,
  from_next,
  from_octet,
}
use Rattle.element.proofs.Counting.{counted-there}
use Rattle.octets.specs.declared.Reference.{Reference}
use Rattle.message.specs.declared.Classmark.{Classmark}
use Rattle.message.specs.declared.Message.{Message}
use Rattle.message.specs.declared.Message.TheVariants.{
  Connect,
  GetStatus,
  ImmediateSetup,
  SetParameter,
  Setup,
  Status,
  Termination,
  TerminationReject,
  TerminationRequest,
}
use Rattle.message.specs.Content.{reference_octets}
use Rattle.message.specs.Tables.{counted}
use Rattle.message.specs.Reading.{reference_at, unless_known, whole_of, identity_behind, half_found, half_at, connect_of, get_status_of, immediate_identity_of, immediate_setup_of, set_parameter_of, setup_of, status_of, termination_of, termination_reject_of, termination_request_of, body_of}
use Rattle.writing.specs.Bodies.{half_octets}
use Rattle.roundtrip.proofs.Drawn.{HalfDrawn, RejectDrawn}

-- A run that starts at `start` with `count` octets.
abbrev pub run : ℕ → ℕ → Run
run start count = record { start = start; count = count }

-- A message whose mandatory part is there, with nothing behind it that must be known.
whole_calm : (s : List ℕ) (end : ℕ) (m : Message) → end ≤ length s → element_from s end 0 15 ≡ None → Ok m ≡ whole_of s end m
unfolding whole_of
whole_calm s end m h e = simp (le-leb _ _ h) (ap (unless_known m) (sym e))

-- The same, with nothing behind it at all.
whole-end : (s : List ℕ) (end : ℕ) (m : Message) → length s ≡ end → Ok m ≡ whole_of s end m
whole-end s end m h = whole_calm s end m (omega arith) (from_end s 0 15 end (omega arith))

-- A length octet at `at` and as many octets.
counted_is : (s : List ℕ) (at low high n : ℕ) → get_or s at 0 ≡ n → low ≤ n → n ≤ high → at + 1 + n ≤ length s
    → counted_at s at low high ≡ Ok (run (at + 1) n)
counted_is s at low high n e h k l =
    let w : within (get_or s at 0) low high ≡ true = rw e (within-inside n low high h k) in
    let b : at + 1 + get_or s at 0 ≤ length s = rw e l in
    sym (counted-there s at low high (omega arith) w b) ∙ ap (λ (x : ℕ). Ok (run (at + 1) x)) e

-- A reference that ends the octets.
reference-back : (p : List ℕ) (r : Reference) (at : ℕ) → length p ≡ at → reference_at (p ++ reference_octets r) at ≡ r
reference-back p r at e =
    let a : get_or (p ++ reference_octets r) at 0 ≡ r.first = rw (← e, ← add-zero (length p)) (get_or-append-add p (reference_octets r) 0 0) in
    let b : get_or (p ++ reference_octets r) (at + 1) 0 ≡ r.second = rw (← e) (get_or-append-add p (reference_octets r) 1 0) in
    let c : get_or (p ++ reference_octets r) (at + 2) 0 ≡ r.third = rw (← e) (get_or-append-add p (reference_octets r) 2 0) in
    let d : get_or (p ++ reference_octets r) (at + 3) 0 ≡ r.fourth = rw (← e) (get_or-append-add p (reference_octets r) 3 0) in
    simp (a, b, c, d)

pub connect-back : (protocol : Protocol) (h : ℕ) (r : Reference) (o z : ℕ) → o < 2 → z ≡ o
    → Ok (Connect r o) ≡ body_of protocol (h ∷ 0x33 ∷ r.first ∷ r.second ∷ r.third ∷ r.fourth ∷ z ∷ []) 0x33
unfolding body_of connect_of
connect-back protocol h r o z k e =
    let q : z % 2 ≡ o = omega arith in
    rw q (whole-end (h ∷ 0x33 ∷ r.first ∷ r.second ∷ r.third ∷ r.fourth ∷ z ∷ []) 7 (Connect r o) refl)

pub parameter_back : (protocol : Protocol) (h a z : ℕ) → a < 16 → z ≡ a → Ok (SetParameter a) ≡ body_of protocol (h ∷ 0x3A ∷ z ∷ []) 0x3A
unfolding body_of set_parameter_of
parameter_back protocol h a z k e =
    let q : z % 16 ≡ a = omega arith in rw q (whole-end (h ∷ 0x3A ∷ z ∷ []) 3 (SetParameter a) refl)

pub setup-back : (protocol : Protocol) (h : ℕ) (r : Reference) → Ok (Setup r) ≡ body_of protocol (h ∷ 0x32 ∷ reference_octets r) 0x32
unfolding body_of setup_of
setup-back protocol h r = whole-end (h ∷ 0x32 ∷ reference_octets r) 6 (Setup r) refl

pub request_back : (protocol : Protocol) (h : ℕ) (r : Reference) → Ok (TerminationRequest r) ≡ body_of protocol (h ∷ 0x35 ∷ reference_octets r) 0x35
unfolding body_of termination_request_of
request_back protocol h r = whole-end (h ∷ 0x35 ∷ reference_octets r) 6 (TerminationRequest r) refl

pub termination-back : (protocol : Protocol) (h : ℕ) (c : List ℕ) → 1 ≤ length c → length c ≤ 247
    → Ok (Termination (run 3 (length c))) ≡ body_of protocol (h ∷ 0x34 ∷ counted c) 0x34
unfolding body_of termination_of
termination-back protocol h c l k =
    rw (counted_is (h ∷ 0x34 ∷ counted c) 2 1 247 (length c) refl l k (omega arith))
    (whole-end (h ∷ 0x34 ∷ counted c) (3 + length c) (Termination (run 3 (length c))) (omega arith))

-- TERMINATION REJECT, as each protocol draws it: its octets behind the type, and where its cause is found.
abbrev pub reject_octets : Protocol → List ℕ → List ℕ
reject_octets Broadcast c = counted c
reject_octets Group c = c

abbrev pub reject_run : Protocol → List ℕ → Run
reject_run Broadcast c = run 3 (length c)
reject_run Group c = run 2 4

pub reject_back : (protocol : Protocol) (h : ℕ) (c : List ℕ) → RejectDrawn protocol c
    → Ok (TerminationReject (reject_run protocol c)) ≡ body_of protocol (h ∷ 0x36 ∷ reject_octets protocol c) 0x36
unfolding body_of termination_reject_of
reject_back Broadcast h c (l, k) =
    rw (counted_is (h ∷ 0x36 ∷ counted c) 2 1 247 (length c) refl l k (omega arith))
    (whole-end (h ∷ 0x36 ∷ counted c) (3 + length c) (TerminationReject (run 3 (length c))) (omega arith))
reject_back Group h c l = whole-end (h ∷ 0x36 ∷ c) 6 (TerminationReject (run 2 4)) (omega arith)

-- IMMEDIATE SETUP behind its two halves.
abbrev pub immediate : ℕ → ℕ → Classmark → List ℕ → Reference → List ℕ
immediate h halves c i r = h ∷ 0x31 ∷ halves ∷ 3 ∷ c.first ∷ c.second ∷ c.third ∷ length i ∷ (i ++ reference_octets r)

pub immediate-back : (protocol : Protocol) (h k z : ℕ) (c : Classmark) (i : List ℕ) (r : Reference) → k < 8 → z ≡ 16 * k → 1 ≤ length i → length i ≤ 8
    → Ok (ImmediateSetup k c (run 8 (length i)) r) ≡ body_of protocol (immediate h z c i r) 0x31
unfolding body_of immediate_setup_of immediate_identity_of
immediate-back protocol h k z c i r a e l b =
    let s : List ℕ = immediate h z c i r in
    let t : length (i ++ reference_octets r) ≡ length i + 4 = length-append i (reference_octets r) in
    let q : z / 16 % 8 ≡ k = omega arith in
    let x : reference_at s (8 + length i) ≡ r =
    reference-back (h ∷ 0x31 ∷ z ∷ 3 ∷ c.first ∷ c.second ∷ c.third ∷ length i ∷ i) r (8 + length i) (omega arith) in
    rw (counted_is s 3 3 3 3 refl (omega arith) (omega arith) (omega arith), counted_is s 7 1 8 (length i) refl l b (omega arith))
    (rw (q, x) (whole-end s (8 + length i + 4) (ImmediateSetup k c (run 8 (length i)) r) (omega arith)))

pub bare-back : (protocol : Protocol) (h : ℕ) → Ok (GetStatus None) ≡ body_of protocol (h ∷ 0x39 ∷ []) 0x39
unfolding body_of get_status_of
bare-back protocol h = rw (from_end (h ∷ 0x39 ∷ []) 0x17 0x17 2 (omega arith)) (whole-end (h ∷ 0x39 ∷ []) 2 (GetStatus None) refl)

module _ (h : ℕ) (i : List ℕ) (l : 1 ≤ length i) (k : length i ≤ 8) where
  abbrev identified : List ℕ
  identified = h ∷ 0x39 ∷ 0x17 ∷ counted i

  onto : next_element identified 2 ≡ Some (4 + length i)
  unfolding next_element
  onto = let b : 4 + length i ≤ length identified = omega arith in simp (le-leb _ _ b)

  pub identified-back : (protocol : Protocol) → Ok (GetStatus (Some (run 4 (length i)))) ≡ body_of protocol identified 0x39
  unfolding body_of get_status_of identity_behind
  identified-back protocol =
      let calm : element_from identified 2 0 15 ≡ None =
      from_next identified 0 15 2 (4 + length i) (omega arith) (within_over 0x17 0 15 (omega arith)) onto
      ∙ from_end identified 0 15 (4 + length i) (omega arith) in
      rw (
        from_here identified 0x17 0x17 2 (omega arith) (within-inside 0x17 0x17 0x17 (omega arith) (omega arith)),
        counted_is identified 3 1 8 (length i) refl l k (omega arith),
      )
      (whole_calm identified 2 (GetStatus (Some (run 4 (length i)))) (omega arith) calm)

-- The optional half octets at the end of a STATUS, from `at` on.
pub record Ends (s : List ℕ) (at : ℕ) (x y : Option ℕ) : Type 0 where
  pub first : half_at s at 0xA0 ≡ x
  pub second : half_at s at 0xB0 ≡ y
  pub calm : element_from s at 0 15 ≡ None

module _ (s : List ℕ) (at : ℕ) where
  ends-none : length s ≡ at → Ends s at None None
  unfolding half_at
  ends-none l = record {
    first = ap half_found (from_end s 0xA0 0xAF at (omega arith));
    second = ap half_found (from_end s 0xB0 0xBF at (omega arith));
    calm = from_end s 0 15 at (omega arith);
  }

  -- A last element of one octet is passed over, or is found.
  module _ (a : ℕ) (e : get_or s at 0 ≡ a) (big : 128 ≤ a) where
    hit : (low high : ℕ) → at < length s → low ≤ a → a ≤ high → element_from s at low high ≡ Some (at, a)
    hit low high l p q =
        from_here s low high at l (rw e (within-inside a low high p q)) ∙ ap (λ (x : ℕ). Some (at, x)) e

    miss : (low high : ℕ) → at < length s → within a low high ≡ false → element_from s at low high ≡ element_from s (at + 1) low high
    miss low high l w = from_octet s low high at l (rw e w) (omega arith)

half_hit : (s : List ℕ) (at low p x v : ℕ) → element_from s at low (low + 15) ≡ Some (p, x) → x % 16 ≡ v → half_at s at low ≡ Some v
unfolding half_at
half_hit s at low p x v e q = ap half_found e ∙ ap Some q

half_none : (s : List ℕ) (at low : ℕ) → element_from s at low (low + 15) ≡ None → half_at s at low ≡ None
unfolding half_at
half_none s at low e = ap half_found e

half_same : (s : List ℕ) (at next low : ℕ) → element_from s at low (low + 15) ≡ element_from s next low (low + 15)
    → half_at s at low ≡ half_at s next low
unfolding half_at
half_same s at next low e = ap half_found e

module _ (s : List ℕ) (at : ℕ) where
  ends-first : (x : ℕ) → x < 16 → length s ≡ at + 1 → get_or s at 0 ≡ 160 + x → Ends s at (Some x) None
  ends-first x h l g =
      let i : at < length s = omega arith in
      let past : (low high : ℕ) → element_from s (at + 1) low high ≡ None = λ low high. from_end s low high (at + 1) (omega arith) in
      record {
        first = half_hit s at 0xA0 at (160 + x) x (hit s at (160 + x) g (omega arith) 0xA0 0xAF i (omega arith) (omega arith)) (omega arith);
        second = half_none s at 0xB0 (miss s at (160 + x) g (omega arith) 0xB0 0xBF i (within_under (160 + x) 0xB0 0xBF (omega arith)) ∙ past 0xB0 0xBF);
        calm = miss s at (160 + x) g (omega arith) 0 15 i (within_over (160 + x) 0 15 (omega arith)) ∙ past 0 15;
      }

  ends-second : (y : ℕ) → y < 16 → length s ≡ at + 1 → get_or s at 0 ≡ 176 + y → Ends s at None (Some y)
  ends-second y h l g =
      let i : at < length s = omega arith in
      let past : (low high : ℕ) → element_from s (at + 1) low high ≡ None = λ low high. from_end s low high (at + 1) (omega arith) in
      record {
        first = half_none s at 0xA0 (miss s at (176 + y) g (omega arith) 0xA0 0xAF i (within_over (176 + y) 0xA0 0xAF (omega arith)) ∙ past 0xA0 0xAF);
        second = half_hit s at 0xB0 at (176 + y) y (hit s at (176 + y) g (omega arith) 0xB0 0xBF i (omega arith) (omega arith)) (omega arith);
        calm = miss s at (176 + y) g (omega arith) 0 15 i (within_over (176 + y) 0 15 (omega arith)) ∙ past 0 15;
      }

ends_both : (s : List ℕ) (at x y : ℕ) → x < 16 → y < 16 → length s ≡ at + 2 → get_or s at 0 ≡ 160 + x → get_or s (at + 1) 0 ≡ 176 + y
    → Ends s at (Some x) (Some y)
ends_both s at x y h k l g e =
    let i : at < length s = omega arith in
    let rest : Ends s (at + 1) None (Some y) = ends-second s (at + 1) y k (omega arith) e in
    record {
      first = half_hit s at 0xA0 at (160 + x) x (hit s at (160 + x) g (omega arith) 0xA0 0xAF i (omega arith) (omega arith)) (omega arith);
      second = half_same s at (at + 1) 0xB0 (miss s at (160 + x) g (omega arith) 0xB0 0xBF i (within_under (160 + x) 0xB0 0xBF (omega arith))) ∙ rest.second;
      calm = miss s at (160 + x) g (omega arith) 0 15 i (within_over (160 + x) 0 15 (omega arith)) ∙ rest.calm;
    }

-- What stands behind p.
at_seam : (p t : List ℕ) (at n : ℕ) → length p ≡ at → get_or (p ++ t) (at + n) 0 ≡ get_or t n 0
at_seam p t at n e = rw (← e) (get_or-append-add p t n 0)

first-behind : (p t : List ℕ) (at : ℕ) → length p ≡ at → get_or (p ++ t) at 0 ≡ get_or t 0 0
first-behind p t at e = rw (← add-zero at) (at_seam p t at 0 e)

longer : (p t : List ℕ) (at n : ℕ) → length p ≡ at → length t ≡ n → length (p ++ t) ≡ at + n
longer p t at n e f = length-append p t ∙ rw (e, f)

ends : (p : List ℕ) (at : ℕ) (x y : Option ℕ) → length p ≡ at → HalfDrawn x → HalfDrawn y
    → Ends (p ++ (half_octets 0xA x ++ half_octets 0xB y)) at x y
ends p at None None e a b = ends-none (p ++ []) at (longer p [] at 0 e refl ∙ add-zero at)
ends p at (Some x) None e a b =
    ends-first (p ++ ((160 + x) ∷ [])) at x a (longer p ((160 + x) ∷ []) at 1 e refl) (first-behind p ((160 + x) ∷ []) at e)
ends p at None (Some y) e a b =
    ends-second (p ++ ((176 + y) ∷ [])) at y b (longer p ((176 + y) ∷ []) at 1 e refl) (first-behind p ((176 + y) ∷ []) at e)
ends p at (Some x) (Some y) e a b =
    ends_both (p ++ ((160 + x) ∷ (176 + y) ∷ [])) at x y a b (longer p ((160 + x) ∷ (176 + y) ∷ []) at 2 e refl)
    (first-behind p ((160 + x) ∷ (176 + y) ∷ []) at e) (at_seam p ((160 + x) ∷ (176 + y) ∷ []) at 1 e)

pub status-back : (protocol : Protocol) (h : ℕ) (c : List ℕ) (x y : Option ℕ) → 1 ≤ length c → length c ≤ 247 → HalfDrawn x → HalfDrawn y
    → Ok (Status (run 3 (length c)) x y) ≡ body_of protocol (h ∷ 0x38 ∷ length c ∷ (c ++ (half_octets 0xA x ++ half_octets 0xB y))) 0x38
unfolding body_of status_of
status-back protocol h c x y l k a b =
    let s : List ℕ = h ∷ 0x38 ∷ length c ∷ (c ++ (half_octets 0xA x ++ half_octets 0xB y)) in
    let e : Ends s (3 + length c) x y = ends (h ∷ 0x38 ∷ length c ∷ c) (3 + length c) x y (omega arith) a b in
    let z : length (c ++ (half_octets 0xA x ++ half_octets 0xB y)) ≡ length c + length (half_octets 0xA x ++ half_octets 0xB y) = length-append c _ in
    rw (counted_is s 2 1 247 (length c) refl l k (omega arith))
    (rw (e.first, e.second) (whole_calm s (3 + length c) (Status (run 3 (length c)) x y) (omega arith) e.calm))
