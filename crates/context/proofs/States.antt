-- Laws of the states' numbers.
use Prim.Native.Nat.{ℕ, ◌<◌}
use mathlib.Core.Path.{◌≡◌, refl, sym, ap, ◌∙◌}
use mathlib.Core.List.{[], ◌∷◌}
use mathlib.Core.Bool.{true, false}
use native.Mathlib.Omega.{arith}
use lib.ListN.{get_or}
use borrow.Author.Tests.{eqb-true, ne_eqb}
use denote.Enum.Bare.{sameb}
use denote.Enum.Declared.{tag_of}
use Rattle.codes.specs.contracts.state.State.{the_type}
use Rattle.codes.specs.declared.state.State.{State}
use Rattle.codes.specs.declared.state.State.TheVariants.{U0, U0p, U1, U2, U3, U4, U5, U6, U2sl, U2wr, U2r, U2ws, U2sr, U2nc}
use Rattle.codes.specs.declared.attributes.Parameters.{Parameters}
use Rattle.context.specs.States.{number_of, same}
use Rattle.context.specs.Context.{start_row, set_row, entering}

-- Fourteen states.
pub state_below : (s : State) → number_of s < 14
state_below = elim [ U0 ↦ omega arith | U0p ↦ omega arith | U1 ↦ omega arith | U2 ↦ omega arith | U3 ↦ omega arith | U4 ↦ omega arith | U5 ↦ omega arith | U6 ↦ omega arith | U2sl ↦ omega arith | U2wr ↦ omega arith | U2r ↦ omega arith | U2ws ↦ omega arith | U2sr ↦ omega arith | U2nc ↦ omega arith ]

-- The state of a number.
abbrev state_at : ℕ → State
state_at n = get_or (U0 ∷ U0p ∷ U1 ∷ U2 ∷ U3 ∷ U4 ∷ U5 ∷ U6 ∷ U2sl ∷ U2wr ∷ U2r ∷ U2ws ∷ U2sr ∷ U2nc ∷ []) n U0

at_number : (s : State) → state_at (number_of s) ≡ s
at_number = elim [ U0 ↦ refl | U0p ↦ refl | U1 ↦ refl | U2 ↦ refl | U3 ↦ refl | U4 ↦ refl | U5 ↦ refl | U6 ↦ refl | U2sl ↦ refl | U2wr ↦ refl | U2r ↦ refl | U2ws ↦ refl | U2sr ↦ refl | U2nc ↦ refl ]

-- States of the same number are the same.
pub same-state : (a b : State) → same a b ≡ true → a ≡ b
same-state a b e = sym (at_number a) ∙ ap state_at (eqb-true (number_of a) (number_of b) e) ∙ at_number b

-- Whether two states are the same, as the code asks it.
number_is_tag : (s : State) → tag_of the_type s ≡ number_of s
number_is_tag = elim [ U0 ↦ refl | U0p ↦ refl | U1 ↦ refl | U2 ↦ refl | U3 ↦ refl | U4 ↦ refl | U5 ↦ refl | U6 ↦ refl | U2sl ↦ refl | U2wr ↦ refl | U2r ↦ refl | U2ws ↦ refl | U2sr ↦ refl | U2nc ↦ refl ]

pub same_asked : (a b : State) → sameb the_type a b ≡ same a b
same_asked a b = rw (number_is_tag a, number_is_tag b)

-- Other states have other numbers.
pub other_state : (a b : State) → (a ≡ b → ⊥) → same a b ≡ false
other_state a b n = ne_eqb _ _ (λ e. n (sym (at_number a) ∙ ap state_at e ∙ at_number b))

-- The states before U2sl, those of a broadcast call, set all four parameters.
pub sets-all : (s : State) (p : Parameters) → number_of s < 8 → start_row s ≡ entering s p
unfolding entering start_row set_row
sets-all = elim [ U0 ↦ (λ p h. refl) | U0p ↦ (λ p h. refl) | U1 ↦ (λ p h. refl) | U2 ↦ (λ p h. refl) | U3 ↦ (λ p h. refl) | U4 ↦ (λ p h. refl) | U5 ↦ (λ p h. refl) | U6 ↦ (λ p h. refl) | U2sl ↦ (λ p h. let z : ⊥ = omega arith in elim z [ ]) | U2wr ↦ (λ p h. let z : ⊥ = omega arith in elim z [ ]) | U2r ↦ (λ p h. let z : ⊥ = omega arith in elim z [ ]) | U2ws ↦ (λ p h. let z : ⊥ = omega arith in elim z [ ]) | U2sr ↦ (λ p h. let z : ⊥ = omega arith in elim z [ ]) | U2nc ↦ (λ p h. let z : ⊥ = omega arith in elim z [ ]) ]
