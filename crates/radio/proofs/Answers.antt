-- What a step's answer says of all that is lent, and that a fit context stays fit.
use Prim.Native.Nat.{ℕ, ◌≤◌}
use mathlib.Core.Path.{◌≡◌, refl, ap}
use mathlib.Core.List.{List, []}
use mathlib.Core.Bool.{true}
use native.Mathlib.Omega.{arith}
use lib.ListN.{length}
use borrow.Author.Tests.{leb-true}
use Rattle.codes.specs.declared.state.State.TheVariants.{U0}
use Rattle.version.specs.declared.Table.{Table}
use Rattle.version.specs.Version.{protocol_of, greatest_actions}
use Rattle.context.specs.declared.Context.{Context}
use Rattle.context.specs.Context.{cleared}
use Rattle.fitness.specs.Tables.{fit_of}
use Rattle.fitness.proofs.Tables.{fit_u0, fit-value}
use Rattle.call.specs.declared.Settled.{Settled}
use Rattle.call.proofs.Answers.{Right, settled_right}
use Rattle.message.specs.declared.Own.{Own}
use Rattle.codes.specs.declared.protocol.Protocol.{Protocol}
use Rattle.call.specs.declared.Sent.{Sent}
use Rattle.reply.proofs.Fits.{reply-short, nothing-sent}
use Rattle.radio.specs.declared.Happened.{Happened}
use Rattle.radio.specs.Step.{due_to, reacted_to, Reaction, refused, reacted, step_of}
use Rattle.radio.proofs.Range.{refused-most, refused-not_1}
use Rattle.radio.proofs.Reacting.{of_step, react_fit, react_orderly}

-- What a reaction's answer says: it is a number of the table, 0 to 7; any but 0 keeps the context and has no actions; any but 0 and 2 writes nothing.
-- Its actions are at most the table's sum. Answer 1 has a reason of 1 to 6 beside it, and every other answer 0.
pub record Honest (most : ℕ) (x : Context) (r : Reaction) : Type 0 where
  pub numbered : r.answer ≤ 7
  pub kept : (r.answer ≡ 0 → ⊥) → r.context ≡ x
  pub still : (r.answer ≡ 0 → ⊥) → r.actions ≡ 0
  pub silent : (r.answer ≡ 0 → ⊥) → (r.answer ≡ 2 → ⊥) → r.reply ≡ []
  pub few : r.actions ≤ most
  pub told : r.answer ≡ 1 → (1 ≤ r.reason) × (r.reason ≤ 6)
  pub untold : (r.answer ≡ 1 → ⊥) → r.reason ≡ 0

refused_honest : (most : ℕ) (x : Context) (answer : ℕ) → answer ≤ 7 → (answer ≡ 1 → ⊥) → Honest most x (refused answer x)
refused_honest most x answer within other = record {
  numbered = within;
  kept = λ n. refl;
  still = λ n. refl;
  silent = λ n m. refl;
  few = omega arith;
  told = λ e. absurd (other e);
  untold = λ n. refl;
}

reacted_honest : (protocol : Protocol) (own : Own) (identity s : List ℕ) (most : ℕ) (x : Context) (t : Settled) → Right most x t → Honest most x (reacted protocol own identity s t)
reacted_honest protocol own identity s most x t r = record {
  numbered = omega (arith, r.numbered);
  kept = r.kept;
  still = r.still;
  silent = λ n m. nothing-sent protocol own identity s t.context t.sends t.sent (r.silent n m) (ap (λ (k : Sent). k.status) (r.unsent n)) (ap (λ (k : Sent). k.request) (r.unsent n));
  few = r.few;
  told = r.told;
  untold = r.untold;
}

module _ (table : Table) where
  -- Whatever is due keeps what the answers promise.
  pub react_right : (identity : List ℕ) (x : Context) (h : Happened) (s : List ℕ) → Right (greatest_actions table) x (reacted_to table identity x h s)
  unfolding reacted_to
  react_right identity x h s = settled_right table x (due_to table identity x h s)

  -- Every call is answered 0 to 7. Answers 1 and 3 to 7 change nothing lent, and 2 keeps the context.
  pub step_honest : (own : Own) (identity : List ℕ) (room : ℕ) (x : Context) (h : Happened) (s : List ℕ) → Honest (greatest_actions table) x (step_of table own identity room x h s)
  step_honest own identity room x h s =
      of_step table own identity room x h s (Honest (greatest_actions table) x) (refused_honest (greatest_actions table) x _ (refused-most table x own.key (length identity) h (length s) room) (refused-not_1 table x own.key (length identity) h (length s) room))
      (λ o. reacted_honest (protocol_of table) own identity s (greatest_actions table) x (reacted_to table identity x h s) (react_right identity x h s))

  -- A step from a fit context ends in a fit one.
  pub step_keeps_fit : (own : Own) (identity : List ℕ) (room : ℕ) (x : Context) (h : Happened) (s : List ℕ) → fit_of table x ≡ true
      → fit_of table (step_of table own identity room x h s).context ≡ true
  step_keeps_fit own identity room x h s fit =
      of_step table own identity room x h s (λ r. fit_of table r.context ≡ true) fit (λ o. react_fit table identity x h s own.key fit o.range)

  -- Entering U0 clears: a context that is in U0 after a step is the cleared one.
  pub u0_cleared : (own : Own) (identity : List ℕ) (room : ℕ) (x : Context) (h : Happened) (s : List ℕ) → fit_of table x ≡ true
      → (step_of table own identity room x h s).context.state ≡ U0 → (step_of table own identity room x h s).context ≡ cleared
  u0_cleared own identity room x h s fit e = fit_u0 table (step_of table own identity room x h s).context (step_keeps_fit own identity room x h s fit) e

  -- A reply has at most 251 octets.
  abbrev Short : Reaction → Type 0
  Short r = length r.reply ≤ 251

  pub step-short : (own : Own) (identity : List ℕ) (room : ℕ) (x : Context) (h : Happened) (s : List ℕ) → Short (step_of table own identity room x h s)
  step-short own identity room x h s =
      of_step table own identity room x h s Short (omega arith)
      (λ o.
      let t : Settled = reacted_to table identity x h s in
      reply-short (protocol_of table) t.context (leb-true _ _ (fit-value table t.context (react_fit table identity x h s own.key o.fit o.range))) own identity s t.sends t.sent o.known o.least o.most (react_orderly table identity x h s o.fit))
