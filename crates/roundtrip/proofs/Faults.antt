-- The reader's answer and fault are those of document 01's conditions, in the paper's order.
use Prim.Native.Nat.{ℕ, ◌+◌, ◌/◌, ◌%◌, ◌≤◌, ◌<◌}
use mathlib.Core.Path.{◌≡◌, refl, ap, ◌∙◌}
use mathlib.Core.List.{List, [], ◌∷◌}
use mathlib.Core.Bool.{Bool, true, false, cond}
use native.Mathlib.Omega.{arith}
use lib.ListN.{length, get_or}
use lib.Dec.{leb, eqb}
use borrow.Author.Tests.{le-leb, leb-true, leb-false, ltb-false}
use Rattle.octets.specs.Rows.{rows}
use Rattle.octets.proofs.Rows.{Absent, Each, other, at_rows}
use Rattle.codes.specs.declared.protocol.Protocol.{Protocol}
use Rattle.codes.specs.declared.protocol.Protocol.TheVariants.{Broadcast, Group}
use Rattle.octets.specs.declared.Run.{Run}
use Rattle.std.specs.Prelude.{Option, Some, None, is_some, Result, Ok, Err}
use Rattle.message.specs.declared.Fault.{Fault}
use Rattle.message.specs.declared.Reading.{Reading}
use Rattle.message.specs.declared.Unread.{Unread}
use Rattle.element.specs.Elements.{within, element_from}
use Rattle.element.specs.Counted.{counted_at}
use Rattle.element.proofs.Elements.{within_says}
use Rattle.message.specs.declared.Message.{Message}
use Rattle.message.specs.declared.Message.TheVariants.{Status, Termination, TerminationReject}
use Rattle.message.specs.declared.Fault.TheVariants.{TooShort, Discriminator, UnknownType, CutShort, WrongLength, MustBeKnown}
use Rattle.message.specs.Answers.{fault_number, reading_number}
use Rattle.message.specs.Reading.{octet, behind, unless_known, whole_of, on_counted, half_at, connect_of, get_status_of, immediate_reference_of, immediate_identity_of, immediate_setup_of, set_parameter_of, setup_of, status_of, termination_of, termination_reject_of, termination_request_of, kinds, body_of, read_as, read_message}
use Rattle.roundtrip.specs.Faults.{Piece, octets, counted, Drawing, none, reject_piece, drawings, wrong_from, too_long, too_short, ours, is_drawn, typed, wrong_in, rule_three, number_by, fault_by, fault_read}

-- The fault of what stands behind the first two octets.
abbrev fault_in : Result Message Fault → ℕ
fault_in (Ok message) = 0
fault_in (Err fault) = fault_number fault

-- The same from a drawing: 3 where there is none, 4 where it is wrong.
abbrev fault_of : Bool → Bool → ℕ
fault_of type wrong = cond type (cond wrong 4 0) 3

-- The answer's number: 13 where there is a fault.
abbrev answer_of : ℕ → ℕ
answer_of fault = cond (eqb fault 0) 0 13

abbrev number_of : Bool → Bool → ℕ
number_of type wrong = cond type (cond wrong 13 0) 13

known-fault : (m : Message) (found : Option (ℕ × ℕ)) → fault_in (unless_known m found) ≡ cond (is_some found) 4 0
known-fault m None = refl
known-fault m (Some (at, identifier)) = refl

module _ (protocol : Protocol) (s : List ℕ) where
  -- A message that ends at `end`: the last piece is there, and no element behind it must be known.
  whole-fault : (end : ℕ) (m : Message) → fault_in (whole_of s end m) ≡ cond (cond (leb end (length s)) (is_some (element_from s end 0 15)) true) 4 0
  unfolding whole_of
  whole-fault end m = go (leb end (length s))
    where
      go : (t : Bool)
          → fault_in (cond t (unless_known m (element_from s end 0 15)) (Err CutShort)) ≡ cond (cond t (is_some (element_from s end 0 15)) true) 4 0
      go true = known-fault m (element_from s end 0 15)
      go false = refl

  -- The same where the octets are there already.
  whole-there : (end : ℕ) (m : Message) → end ≤ length s → fault_in (whole_of s end m) ≡ cond (is_some (element_from s end 0 15)) 4 0
  whole-there end m h = whole-fault end m ∙ ap (λ (t : Bool). cond (cond t (is_some (element_from s end 0 15)) true) 4 0) (le-leb _ _ h)

  abbrev counts : ℕ → Run
  counts at = record { start = at + 1; count = get_or s at 0 }

  -- A counted piece: what stands behind it decides, where the length octet is as drawn and the octets are there.
  counted-fault : (at low high : ℕ) (go : Run → Result Message Fault) (more : List Piece)
      → (within (get_or s at 0) low high ≡ true → at + 1 + get_or s at 0 ≤ length s
      → fault_in (go (counts at)) ≡ cond (wrong_from s (at + 1 + get_or s at 0) more) 4 0)
      → fault_in (on_counted at go (counted_at s at low high)) ≡ cond (wrong_from s at (counted low high ∷ more)) 4 0
  unfolding counted_at wrong_from
  counted-fault at low high go more h =
      cases (leb (length s) at) (within (get_or s at 0) low high) (leb (at + 1 + get_or s at 0) (length s)) refl refl refl
    where
      cases : (a b c : Bool) → leb (length s) at ≡ a → within (get_or s at 0) low high ≡ b → leb (at + 1 + get_or s at 0) (length s) ≡ c
          → fault_in (on_counted at go (counted_at s at low high)) ≡ cond (wrong_from s at (counted low high ∷ more)) 4 0
      cases true b c p q r = rw p refl
      cases false false c p q r = rw (p, q) refl
      cases false true false p q r = rw (p, q, r) refl
      cases false true true p q r = rw (p, q, r) (h q (leb-true _ _ r))

  -- A cause and nothing mandatory behind it.
  cause_fault : (go : Run → Message)
      → fault_in (on_counted 2 (λ cause. whole_of s (behind cause) (go cause)) (counted_at s 2 1 247)) ≡ cond (wrong_from s 2 (counted 1 247 ∷ [])) 4 0
  unfolding wrong_from
  cause_fault go =
      counted-fault 2 1 247 (λ cause. whole_of s (behind cause) (go cause)) [] (λ w f. whole-there (2 + 1 + get_or s 2 0) (go (counts 2)) f)

  -- A TERMINATION REJECT, as each protocol draws it.
  reject_fault : (p : Protocol) → fault_in (termination_reject_of p s) ≡ cond (wrong_from s 2 (reject_piece p ∷ [])) 4 0
  unfolding termination_reject_of wrong_from
  reject_fault Broadcast = cause_fault TerminationReject
  reject_fault Group = whole-fault 6 _

  immediate-fault : fault_in (immediate_setup_of s) ≡ cond (wrong_from s 2 (octets 1 ∷ counted 3 3 ∷ counted 1 8 ∷ octets 4 ∷ [])) 4 0
  unfolding immediate_setup_of immediate_identity_of wrong_from counted_at
  immediate-fault = third (leb 3 (length s)) refl
    where
      identity : fault_in (immediate_identity_of s) ≡ cond (wrong_from s 7 (counted 1 8 ∷ octets 4 ∷ [])) 4 0
      identity = counted-fault 7 1 8 (immediate_reference_of s) (octets 4 ∷ []) (λ w f. whole-fault (7 + 1 + get_or s 7 0 + 4) _)

      classmark : fault_in (immediate_setup_of s) ≡ cond (wrong_from s 3 (counted 3 3 ∷ counted 1 8 ∷ octets 4 ∷ [])) 4 0
      classmark = counted-fault 3 3 3 (λ run. immediate_identity_of s) (counted 1 8 ∷ octets 4 ∷ []) λ w f.
          let three : (3 ≤ get_or s 3 0) × (get_or s 3 0 ≤ 3) = within_says (get_or s 3 0) 3 3 w in
          let low : 3 ≤ get_or s 3 0 = three.0 in
          let high : get_or s 3 0 ≤ 3 = three.1 in
          let seven : 7 ≡ 3 + 1 + get_or s 3 0 = omega arith in
          identity ∙ ap (λ (at : ℕ). cond (wrong_from s at (counted 1 8 ∷ octets 4 ∷ [])) 4 0) seven

      third : (t : Bool) → leb 3 (length s) ≡ t
          → fault_in (immediate_setup_of s) ≡ cond (wrong_from s 2 (octets 1 ∷ counted 3 3 ∷ counted 1 8 ∷ octets 4 ∷ [])) 4 0
      third true e = rw e classmark
      third false e =
          let h : length s < 3 = leb-false _ _ e in
          let k : length s ≤ 3 = omega arith in
          rw (e, le-leb _ _ k) refl

  -- Behind a type of the table its drawing decides.
  abbrev FaultIs : ℕ → Result Message Fault → Type 0
  FaultIs kind body = fault_in body ≡ fault_of (is_drawn (rows kind none (drawings protocol))) (wrong_in s (rows kind none (drawings protocol)))

  each_kind : (kind : ℕ) → 2 ≤ length s → Each (FaultIs kind) kind (kinds protocol s)
  unfolding connect_of get_status_of set_parameter_of setup_of status_of termination_of termination_request_of wrong_from
  each_kind kind two = (
    λ e. rw e immediate-fault,
    (
      λ e. rw e (whole-fault 6 _),
      (
        λ e. rw e (whole-fault 7 _),
        (
          λ e. rw e (cause_fault Termination),
          (
            λ e. rw e (whole-fault 6 _),
            (
              λ e. rw e (reject_fault protocol),
              (
                λ e. rw e (cause_fault (λ cause. Status cause (half_at s (behind cause) 0xA0) (half_at s (behind cause) 0xB0))),
                (λ e. rw e (whole-there 2 _ two), (λ e. rw e (whole-fault 3 _), tt)),
              ),
            ),
          ),
        ),
      ),
    ),
  )

  -- A type that has no row has no drawing: the rows of table 9.1 in the order of tables 8.1 to 8.9.
  undrawn : (kind : ℕ) → Absent kind (kinds protocol s) → none ≡ rows kind none (drawings protocol)
  undrawn kind (a31, (a32, (a33, (a34, (a35, (a36, (a38, (a39, (a3A, t))))))))) =
      other kind none (drawings protocol) (a33, (a39, (a31, (a3A, (a32, (a38, (a34, (a36, (a35, tt)))))))))

  kind_fault : (kind : ℕ) → 2 ≤ length s → FaultIs kind (body_of protocol s kind)
  unfolding body_of
  kind_fault kind two =
      at_rows (FaultIs kind) kind (Err UnknownType) (kinds protocol s) (each_kind kind two)
      (λ absent. ap (λ (d : Drawing). fault_of (is_drawn d) (wrong_in s d)) (undrawn kind absent))

  -- ---- the whole

  read_as_lem : (flag : Bool) (value : ℕ) (b : Result Message Fault) → (fault_read (read_as flag value b) ≡ fault_in b) × (reading_number (read_as flag value b) ≡ answer_of (fault_in b))
  read_as_lem flag value (Ok message) = (refl, refl)
  read_as_lem flag value (Err TooShort) = (refl, refl)
  read_as_lem flag value (Err Discriminator) = (refl, refl)
  read_as_lem flag value (Err UnknownType) = (refl, refl)
  read_as_lem flag value (Err CutShort) = (refl, refl)
  read_as_lem flag value (Err (WrongLength at)) = (refl, refl)
  read_as_lem flag value (Err (MustBeKnown at identifier)) = (refl, refl)

  number_of_lem : (type wrong : Bool) → answer_of (fault_of type wrong) ≡ number_of type wrong
  number_of_lem true true = refl
  number_of_lem true false = refl
  number_of_lem false wrong = refl

  -- Document 01's numbers of a reading, from its conditions.
  abbrev Numbered : Result Reading Unread → Type 0
  Numbered r =
      (reading_number r ≡ number_by (too_long s) (too_short s) (ours protocol s) (typed protocol s) (rule_three protocol s))
      × (fault_read r ≡ fault_by (too_long s) (too_short s) (ours protocol s) (typed protocol s) (rule_three protocol s))

  pub reading_numbered : Numbered (read_message protocol s)
  unfolding read_message
  reading_numbered =
      cases (too_long s) (too_short s) (ours protocol s) (leb 128 (octet 2 s)) refl refl refl refl
    where
      cases : (a b c d : Bool) → too_long s ≡ a → too_short s ≡ b → ours protocol s ≡ c → leb 128 (octet 2 s) ≡ d → Numbered (read_message protocol s)
      cases true b c d p q r t = rw p (refl, refl)
      cases false true c d p q r t = rw (p, q) (refl, refl)
      cases false false false d p q r t = rw (p, q, r) (refl, refl)
      cases false false true true p q r t = rw (p, q, r, t) (refl, refl)
      cases false false true false p q r t =
          let kind : ℕ = octet 2 s % 64 in
          let b : Result Message Fault = body_of protocol s kind in
          let f : FaultIs kind b = kind_fault kind (ltb-false _ _ q) in
          let h = read_as_lem (leb 128 (octet 1 s)) (octet 1 s / 16 % 8) b in
          let drawn : Drawing = rows kind none (drawings protocol) in
          rw (p, q, r, t)
          (h.1 ∙ ap answer_of f ∙ number_of_lem (is_drawn drawn) (wrong_in s drawn), h.0 ∙ f)
