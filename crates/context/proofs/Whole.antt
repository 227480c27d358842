-- Tests that are computed over all states and all parameters, and the rule that each gives at one of them; beside them the same of all timers.
pub use Rattle.timer.proofs.Whole.{and_left, and_right, and_both, if_so, either, at_bool, of_timers, at_timers}
use mathlib.Core.Path.{◌≡◌, refl, sym, subst}
use mathlib.Core.List.{List, [], ◌∷◌}
use mathlib.Core.Bool.{Bool, true, false, ◌&&◌}
use Rattle.octets.proofs.Choice.{never}
use Rattle.codes.specs.declared.state.State.{State}
use Rattle.codes.specs.declared.state.State.TheVariants.{U0, U0p, U1, U2, U3, U4, U5, U6, U2sl, U2wr, U2r, U2ws, U2sr, U2nc}
use Rattle.codes.specs.declared.attributes.Parameters.{Parameters}
use Rattle.context.specs.declared.Chooser.{Chooser}
use Rattle.context.specs.declared.Chooser.TheVariants.{Neither, Us, Cell}
use Rattle.context.specs.declared.Remembered.{Remembered}
use Rattle.context.specs.States.{same, among}
use Rattle.context.proofs.States.{same-state}

-- The test holds of every state of a list.
abbrev pub in_all : (State → Bool) → List State → Bool
in_all P [] = true
in_all P (s ∷ more) = P s && in_all P more

abbrev every_state : List State
every_state = U0 ∷ U0p ∷ U1 ∷ U2 ∷ U3 ∷ U4 ∷ U5 ∷ U6 ∷ U2sl ∷ U2wr ∷ U2r ∷ U2ws ∷ U2sr ∷ U2nc ∷ []

-- The test holds in every state.
abbrev pub in_states : (State → Bool) → Bool
in_states P = in_all P every_state

at_one : (P : State → Bool) (states : List State) → in_all P states ≡ true → (s : State) → among s states ≡ true → P s ≡ true
at_one P [] e s m = never m
at_one P (u ∷ more) e s m = go (same s u) refl (at_one P more (and_right (P u) _ e) s)
  where
    go : (b : Bool) → same s u ≡ b → (among s more ≡ true → P s ≡ true) → P s ≡ true
    go true q later = subst (λ v. P v ≡ true) (sym (same-state s u q)) (and_left (P u) _ e)
    go false q later = later (rw q at m)

every : (s : State) → among s every_state ≡ true
every = elim [ U0 ↦ refl | U0p ↦ refl | U1 ↦ refl | U2 ↦ refl | U3 ↦ refl | U4 ↦ refl | U5 ↦ refl | U6 ↦ refl | U2sl ↦ refl | U2wr ↦ refl | U2r ↦ refl | U2ws ↦ refl | U2sr ↦ refl | U2nc ↦ refl ]

pub at_state : (P : State → Bool) → in_states P ≡ true → (s : State) → P s ≡ true
at_state P e s = at_one P every_state e s (every s)

abbrev parameters : Bool → Bool → Bool → Bool → Parameters
parameters a b c d = record { orig = a; comm = b; datt = c; uatt = d }

-- The test holds of all parameters.
abbrev pub of_parameters : (Parameters → Bool) → Bool
of_parameters P = either (λ a. either (λ b. either (λ c. either (λ d. P (parameters a b c d)))))

pub at_parameters : (P : Parameters → Bool) → of_parameters P ≡ true → (p : Parameters) → P p ≡ true
at_parameters P e p =
    at_bool (λ d. P (parameters p.orig p.comm p.datt d))
    (at_bool (λ c. either (λ d. P (parameters p.orig p.comm c d)))
    (at_bool (λ b. either (λ c. either (λ d. P (parameters p.orig b c d))))
    (at_bool (λ a. either (λ b. either (λ c. either (λ d. P (parameters a b c d))))) e p.orig) p.comm) p.datt) p.uatt

-- The test holds of all that may be remembered.
abbrev pub of_remembered : (Remembered → Bool) → Bool
of_remembered P = P Remembered.Nothing && (P Remembered.U1 && (P Remembered.U2 && (P Remembered.U2sl && (P Remembered.U2wr && (P Remembered.U2ws && (P Remembered.U2sr))))))

pub at_remembered : (P : Remembered → Bool) → of_remembered P ≡ true → (r : Remembered) → P r ≡ true
at_remembered P e Remembered.Nothing = and_left (P Remembered.Nothing) _ e
at_remembered P e Remembered.U1 = and_left (P Remembered.U1) _ (and_right (P Remembered.Nothing) _ e)
at_remembered P e Remembered.U2 = and_left (P Remembered.U2) _ (and_right (P Remembered.U1) _ (and_right (P Remembered.Nothing) _ e))
at_remembered P e Remembered.U2sl = and_left (P Remembered.U2sl) _ (and_right (P Remembered.U2) _ (and_right (P Remembered.U1) _ (and_right (P Remembered.Nothing) _ e)))
at_remembered P e Remembered.U2wr = and_left (P Remembered.U2wr) _ (and_right (P Remembered.U2sl) _ (and_right (P Remembered.U2) _ (and_right (P Remembered.U1) _ (and_right (P Remembered.Nothing) _ e))))
at_remembered P e Remembered.U2ws = and_left (P Remembered.U2ws) _ (and_right (P Remembered.U2wr) _ (and_right (P Remembered.U2sl) _ (and_right (P Remembered.U2) _ (and_right (P Remembered.U1) _ (and_right (P Remembered.Nothing) _ e)))))
at_remembered P e Remembered.U2sr = and_right (P Remembered.U2ws) _ (and_right (P Remembered.U2wr) _ (and_right (P Remembered.U2sl) _ (and_right (P Remembered.U2) _ (and_right (P Remembered.U1) _ (and_right (P Remembered.Nothing) _ e)))))

-- The test holds whoever chose the value.
abbrev pub of_choosers : (Chooser → Bool) → Bool
of_choosers P = P Neither && (P Us && P Cell)

pub at_chooser : (P : Chooser → Bool) → of_choosers P ≡ true → (c : Chooser) → P c ≡ true
at_chooser P e Neither = and_left (P Neither) _ e
at_chooser P e Us = and_left (P Us) _ (and_right (P Neither) _ e)
at_chooser P e Cell = and_right (P Us) _ (and_right (P Neither) _ e)
