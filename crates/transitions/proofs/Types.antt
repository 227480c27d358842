-- A type that is not of table 9.1 is reported with 97 in every state but U0, by every table whose rows of messages are of table 9.1's types.
use Prim.Native.Nat.{ℕ}
use mathlib.Core.Path.{◌≡◌, refl, ap, ◌∙◌}
use mathlib.Core.List.{List, [], ◌∷◌, ◌++◌}
use mathlib.Core.Bool.{Bool, true, false, ◌&&◌}
use Rattle.octets.specs.Rows.{rows}
use Rattle.octets.proofs.Choice.{at_cond, never}
use Rattle.octets.proofs.Rows.{Absent, other}
use Rattle.codes.specs.declared.state.State.{State}
use Rattle.codes.specs.declared.state.State.TheVariants.{U0}
use Rattle.codes.specs.MessageTypes.{
  IMMEDIATE-SETUP,
  SETUP,
  CONNECT,
  TERMINATION,
  TERMINATION-REQUEST,
  TERMINATION-REJECT,
  STATUS,
  GET-STATUS,
  SET-PARAMETER,
}
use Rattle.context.specs.declared.Context.{Context}
use Rattle.context.specs.States.{same}
use Rattle.context.proofs.Whole.{and_left, and_right}
use Rattle.transitions.specs.declared.Decision.{Decision}
use Rattle.transitions.specs.declared.Decision.TheVariants.{Report}
use Rattle.transitions.specs.Table.{Place, event, message, Row, row, in_place, messages_in, sentences, incompatible, types_in, heard_in}

-- The nine types.
abbrev pub types : List (ℕ × Bool)
types =
    (IMMEDIATE-SETUP, true) ∷
    (SETUP, true) ∷
    (CONNECT, true) ∷
    (TERMINATION, true) ∷
    (TERMINATION-REQUEST, true) ∷
    (TERMINATION-REJECT, true) ∷
    (STATUS, true) ∷
    (GET-STATUS, true) ∷
    (SET-PARAMETER, true) ∷
    []

abbrev pub is_type : ℕ → Bool
is_type code = rows code false types

-- Each of what stands in a list by its type is of one of them.
abbrev keyed : List (ℕ × Decision) → Bool
keyed [] = true
keyed (r ∷ rs) = is_type r.0 && keyed rs

-- Each row of a message is of one of them.
abbrev pub of_types : List Row → Bool
of_types [] = true
of_types (row places (event n) next actions effects ∷ more) = of_types more
of_types (row places (message code) next actions effects ∷ more) = is_type code && of_types more

module _ (code : ℕ) (none : false ≡ is_type code) where
  apart : (k : ℕ) → is_type k ≡ true → code ≡ k → ⊥
  apart k i e = never (none ∙ ap is_type e ∙ i)

  -- Those with a sentence, and all of them.
  absent_else : Absent code (sentences ++ incompatible)
  absent_else = (
    apart GET-STATUS refl,
    (
      apart SET-PARAMETER refl,
      (
        apart IMMEDIATE-SETUP refl,
        (
          apart SETUP refl,
          (
            apart CONNECT refl,
            (
              apart TERMINATION refl,
              (apart TERMINATION-REQUEST refl, (apart TERMINATION-REJECT refl, (apart STATUS refl, (apart GET-STATUS refl, (apart SET-PARAMETER refl, tt))))),
            ),
          ),
        ),
      ),
    ),
  )

  joined : (rs qs : List (ℕ × Decision)) → Absent code rs → Absent code qs → Absent code (rs ++ qs)
  joined [] qs a b = b
  joined (r ∷ rs) qs a b = (a.0, joined rs qs a.1 b)

  absent-keyed : (rs : List (ℕ × Decision)) → keyed rs ≡ true → Absent code rs
  absent-keyed [] e = tt
  absent-keyed (r ∷ rs) e = (apart r.0 (and_left (is_type r.0) _ e), absent-keyed rs (and_right (is_type r.0) _ e))

  -- Among rows of types, before those that every state has.
  pub no_such : (rs : List (ℕ × Decision)) → keyed rs ≡ true → Report 97 ≡ rows code (Report 97) (rs ++ (sentences ++ incompatible))
  no_such rs e = other code (Report 97) (rs ++ (sentences ++ incompatible)) (joined rs _ (absent-keyed rs e) absent_else)

module _ (s : State) (x : Context) (code : ℕ) (none : false ≡ is_type code) where
  placed : (places : List Place) (k : ℕ) (takes : Decision) (more : List (ℕ × Decision)) → (code ≡ k → ⊥) → Absent code more
      → Absent code (in_place s x places takes (Report 98) (λ d. (k, d) ∷ more) more)
  placed [] k takes more n a = a
  placed (p ∷ ps) k takes more n a = at_cond (Absent code) (same s p.0) _ _ (λ e. (n, a)) (λ e. placed ps k takes more n a)

  absent : (table : List Row) → of_types table ≡ true → Absent code (messages_in s x table)
  absent [] e = tt
  absent (row places (event n) next actions effects ∷ more) e = absent more e
  absent (row places (message k) next actions effects ∷ more) e =
      placed places k _ (messages_in s x more) (apart code none k (and_left (is_type k) _ e)) (absent more (and_right (is_type k) _ e))

  pub no_type : (table : List Row) → of_types table ≡ true → same s U0 ≡ false → Report 97 ≡ heard_in table s x code
  unfolding heard_in
  no_type table e u = rw u (other code (Report 97) (types_in table s x) (joined code none (messages_in s x table) _ (absent table e) (absent_else code none)))
