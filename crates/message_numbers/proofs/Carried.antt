-- The fields that numbers carry are those of the message they mean.
use Prim.Native.Nat.{ℕ, ◌≤◌}
use mathlib.Core.Path.{◌≡◌, refl, ap, sym, subst, ◌∙◌}
use mathlib.Core.List.{List, [], ◌∷◌}
use mathlib.Core.Bool.{Bool, true, false, ◌&&◌}
use native.Mathlib.Omega.{arith}
use lib.Dec.{leb, eqb}
use borrow.Author.Tests.{eqb-true, eqb-false, leb-true}
use Rattle.octets.proofs.Choice.{at_cond}
use Rattle.codes.specs.MessageTypes.{
  IMMEDIATE-SETUP,
  SETUP,
  CONNECT,
  TERMINATION,
  TERMINATION-REQUEST,
  TERMINATION-REJECT,
  STATUS,
  GET-STATUS,
  SET-PARAMETER,
}
use Rattle.std.specs.Prelude.{Option, Some, None}
use Rattle.message.specs.declared.Message.{Message}
use Rattle.message.specs.declared.Message.TheVariants.{
  Connect,
  GetStatus,
  ImmediateSetup,
  SetParameter,
  Setup,
  Status,
  Termination,
  TerminationReject,
  TerminationRequest,
}
use Rattle.message.specs.Content.{
  Content,
  connect,
  get_status,
  immediate_setup,
  set_parameter,
  setup,
  status,
  termination,
  termination_reject,
  termination_request,
  content_of,
  reference_octets,
  classmark_octets,
}
use Rattle.message.specs.Tables.{type_of}
use Rattle.limits.proofs.Tests.{and_left, and_right}
use Rattle.message_numbers.specs.declared.Optional.{Optional}
use Rattle.message_numbers.specs.declared.Place.{Place}
use Rattle.message_numbers.specs.declared.Numbers.{Numbers}
use Rattle.message_numbers.specs.Numbers.{
  flag_number,
  classmark_of,
  reference_of,
  half_of,
  run_of,
  identity_of,
  status_of,
  kind_of,
  message_of,
  flag_of,
}
use Rattle.message_numbers.specs.Back.{place_octets, optional_numbers, carried}

-- The numbers of a half octet, and of the fields of a message.
abbrev half_numbers : Option ℕ → List ℕ
half_numbers None = 0 ∷ []
half_numbers (Some value) = 1 ∷ value ∷ []

abbrev field_numbers : Content → List (List ℕ)
field_numbers (connect reference originator) = reference_octets reference ∷ (originator ∷ []) ∷ []
field_numbers (get_status None) = [] ∷ []
field_numbers (get_status (Some identity)) = identity ∷ []
field_numbers (immediate_setup key classmark identity reference) =
    (key ∷ []) ∷ classmark_octets classmark ∷ identity ∷ reference_octets reference ∷ []
field_numbers (set_parameter attributes) = (attributes ∷ []) ∷ []
field_numbers (setup reference) = reference_octets reference ∷ []
field_numbers (status cause state attributes) = cause ∷ half_numbers state ∷ half_numbers attributes ∷ []
field_numbers (termination cause) = cause ∷ []
field_numbers (termination_reject cause) = cause ∷ []
field_numbers (termination_request reference) = reference_octets reference ∷ []

half_same : (o : Optional) → leb o.there 1 ≡ true → optional_numbers o ≡ half_numbers (half_of o)
half_same o h = go (eqb o.there 0) refl
  where
    go : (t : Bool) → eqb o.there 0 ≡ t → optional_numbers o ≡ half_numbers (half_of o)
    go true e = rw (e, eqb-true o.there 0 e)
    go false e =
        let low : o.there ≤ 1 = leb-true _ _ h in
        let some : o.there ≡ 0 → ⊥ = eqb-false _ _ e in
        let one : o.there ≡ 1 = omega (arith, some) in
        rw (e, one)

identity-same : (s : List ℕ) (p : Place) → place_octets s p ∷ [] ≡ field_numbers (content_of s (GetStatus (identity_of p)))
identity-same s p = go (eqb p.count 0) refl
  where
    go : (t : Bool) → eqb p.count 0 ≡ t → place_octets s p ∷ [] ≡ field_numbers (content_of s (GetStatus (identity_of p)))
    go true e = rw (e, eqb-true p.count 0 e)
    go false e = rw e

flag_same : (n : Numbers) → leb n.flag 1 ≡ true → n.flag ≡ flag_number (flag_of n)
flag_same n h = go (eqb n.flag 1) refl
  where
    go : (t : Bool) → eqb n.flag 1 ≡ t → n.flag ≡ flag_number (flag_of n)
    go true e = rw e (eqb-true _ _ e)
    go false e =
        let low : n.flag ≤ 1 = leb-true _ _ h in
        let other : n.flag ≡ 1 → ⊥ = eqb-false _ _ e in
        let none : n.flag ≡ 0 = omega (arith, other) in
        rw e none

-- Numbers say what a message says: its type, and the fields of that type.
pub record Says (s : List ℕ) (n : Numbers) (c : Content) : Type 0 where
  pub kind : n.kind ≡ type_of c
  pub fields : carried s n ≡ field_numbers c

module _ (s : List ℕ) (n : Numbers) where
  abbrev SaysKind : Option Message → Type 0
  SaysKind (Some m) = Says s n (content_of s m)
  SaysKind None = Unit {0}

  status_says : n.kind ≡ STATUS → SaysKind (status_of (run_of n.cause) n.state n.attributes)
  unfolding status_of carried type_of
  status_says k =
      let first : Bool = leb n.state.there 1 in
      let second : Bool = leb n.attributes.there 1 in
      at_cond SaysKind (first && second) (Some (Status (run_of n.cause) (half_of n.state) (half_of n.attributes))) None
      (λ e. record {
        kind = k;
        fields = rw (k, half_same n.state (and_left first second e), half_same n.attributes (and_right first second e));
      })
      (λ e. tt)

  kind_says : SaysKind (kind_of n)
  unfolding kind_of carried type_of
  kind_says =
      at_cond SaysKind (eqb n.kind IMMEDIATE-SETUP)
      (Some (ImmediateSetup n.key (classmark_of n.classmark) (run_of n.identity) (reference_of n.reference))) _
      (λ e. record { kind = eqb-true _ _ e; fields = rw (eqb-true n.kind IMMEDIATE-SETUP e) })
      λ e. at_cond SaysKind (eqb n.kind SETUP) (Some (Setup (reference_of n.reference))) _
      (λ e. record { kind = eqb-true _ _ e; fields = rw (eqb-true n.kind SETUP e) })
      λ e. at_cond SaysKind (eqb n.kind CONNECT) (Some (Connect (reference_of n.reference) n.originator)) _
      (λ e. record { kind = eqb-true _ _ e; fields = rw (eqb-true n.kind CONNECT e) })
      λ e. at_cond SaysKind (eqb n.kind TERMINATION) (Some (Termination (run_of n.cause))) _
      (λ e. record { kind = eqb-true _ _ e; fields = rw (eqb-true n.kind TERMINATION e) })
      λ e. at_cond SaysKind (eqb n.kind TERMINATION-REQUEST) (Some (TerminationRequest (reference_of n.reference))) _
      (λ e. record { kind = eqb-true _ _ e; fields = rw (eqb-true n.kind TERMINATION-REQUEST e) })
      λ e. at_cond SaysKind (eqb n.kind TERMINATION-REJECT) (Some (TerminationReject (run_of n.cause))) _
      (λ e. record { kind = eqb-true _ _ e; fields = rw (eqb-true n.kind TERMINATION-REJECT e) })
      λ e. at_cond SaysKind (eqb n.kind STATUS) (status_of (run_of n.cause) n.state n.attributes) _
      (λ e. status_says (eqb-true _ _ e))
      λ e. at_cond SaysKind (eqb n.kind GET-STATUS) (Some (GetStatus (identity_of n.identity))) _
      (λ e. record { kind = eqb-true _ _ e; fields = rw (eqb-true n.kind GET-STATUS e) (identity-same s n.identity) })
      λ e. at_cond SaysKind (eqb n.kind SET-PARAMETER) (Some (SetParameter n.attributes.value)) None
      (λ e. record { kind = eqb-true _ _ e; fields = rw (eqb-true n.kind SET-PARAMETER e) })
      (λ e. tt)

  -- The same of numbers that mean a message, and their flag is one of the two that a flag has.
  abbrev SaysFlag : Option Message → Type 0
  SaysFlag (Some m) = (n.flag ≡ flag_number (flag_of n)) × Says s n (content_of s m)
  SaysFlag None = Unit {0}

  with_flag : leb n.flag 1 ≡ true → (k : Option Message) → SaysKind k → SaysFlag k
  with_flag low (Some m) says = (flag_same n low, says)
  with_flag low None says = tt

  says_flag : SaysFlag (message_of n)
  unfolding message_of
  says_flag = at_cond SaysFlag (leb n.flag 1) (kind_of n) None (λ e. with_flag e (kind_of n) kind_says) (λ e. tt)

  pub message_says : (m : Message) → message_of n ≡ Some m → (n.flag ≡ flag_number (flag_of n)) × Says s n (content_of s m)
  message_says m e = subst SaysFlag e says_flag

-- What says the same has the same type and the same fields.
pub says_same : (s t : List ℕ) (n o : Numbers) (c d : Content) → c ≡ d → Says s n c → Says t o d → (n.kind ≡ o.kind) × (carried s n ≡ carried t o)
says_same s t n o c d e p q = (p.kind ∙ ap type_of e ∙ sym q.kind, p.fields ∙ ap field_numbers e ∙ sym q.fields)
