-- The rules as the code tests them: what each way of `listen` comes to, and what holds of all that may be due.
use Prim.Native.Nat.{ℕ, ◌+◌, ◌/◌, ◌%◌, ◌≤◌}
use mathlib.Core.Path.{◌≡◌, subst}
use mathlib.Core.List.{List}
use mathlib.Core.Bool.{Bool, true, false, cond, not, ◌&&◌}
use native.Mathlib.Omega.{arith}
use lib.Dec.{eqb, leb, ltb}
use lib.ListN.{length, get_or}
use borrow.Author.Tests.{ne_eqb, not-false, leb-true, eqb-true}
use Rattle.octets.proofs.Choice.{at_cond}
use Rattle.codes.specs.declared.state.State.TheVariants.{U0}
use Rattle.codes.specs.declared.protocol.Protocol.{Protocol}
use Rattle.codes.specs.Protocol.{discriminator}
use Rattle.octets.specs.declared.Run.{Run}
use Rattle.std.specs.Prelude.{Option, Some, Result, Ok, Err}
use Rattle.message.specs.declared.Reading.{Reading}
use Rattle.message.specs.declared.Unread.{Unread}
use Rattle.message.specs.declared.Message.{Message}
use Rattle.message.specs.declared.Fault.{Fault}
use Rattle.message.specs.Content.{run_octets}
use Rattle.message.specs.Tables.{transaction}
use Rattle.message.specs.Reading.{body_of, read_as, read_message}
use Rattle.version.specs.declared.Table.{Table}
use Rattle.version.specs.Version.{protocol_of}
use Rattle.context.specs.declared.Context.{Context}
use Rattle.context.specs.States.{same}
use Rattle.context.specs.Talk.{flag_of}
use Rattle.context.proofs.Whole.{and_left, and_right}
use Rattle.call.specs.declared.Due.{Due}
use Rattle.call.specs.declared.Due.TheVariants.{Steps, Ignored, Reported}
use Rattle.call.specs.declared.Reason.{Reason}
use Rattle.call.specs.declared.Event.TheVariants.{Received}
use Rattle.received.specs.Received.{transaction_is, awaited_is, transaction_fits, type_cause, asked_of, must_name_us, same_octets, is_other, Within}
use Rattle.received.specs.Due.{understood_due, reading_due, due_of}

-- An identity that is named.
pub run-within : (s : List ℕ) (named : Option Run) (run : Run) → named ≡ Some run → Within s named → run.start + run.count ≤ length s
unfolding Within
run-within s named run e w = rw e at w

pub is_named : (ours s : List ℕ) (named : Option Run) (run : Run) (r : Bool) → named ≡ Some run → r ≡ same_octets (run_octets s run) ours → not r ≡ is_other ours s named
unfolding is_other
is_named ours s named run r e p = rw (e, p)

-- Rule 1's transaction, where a value is awaited and where none is.
module _ (x : Context) (first : ℕ) (flag r : Bool) (e : flag ≡ flag_of x) where
  pub fits_awaited : x.talk.awaiting ≡ true → r ≡ awaited_is flag first → r ≡ transaction_fits x first
  unfolding transaction_fits flag_of
  fits_awaited a p = rw a (subst (λ (f : Bool). r ≡ awaited_is f first) e p)

  pub fits_kept : x.talk.awaiting ≡ false → r ≡ transaction_is flag x.value first → r ≡ transaction_fits x first
  unfolding transaction_fits flag_of
  fits_kept a p = rw a (subst (λ (f : Bool). r ≡ transaction_is f x.value first) e p)

-- The value of a message of the call's transaction is at most 6.
pub fits-small : (x : Context) (first : ℕ) → x.value ≤ 6 → transaction_fits x first ≡ true → first / 16 % 8 ≤ 6
unfolding transaction_fits awaited_is transaction_is
fits-small x first small = go x.talk.awaiting (flag_of x)
  where
    go : (a f : Bool) → cond a (cond f (leb 8 (first / 16) && leb (first / 16) 14) (leb (first / 16) 6)) (eqb (first / 16) (transaction f x.value)) ≡ true → first / 16 % 8 ≤ 6
    go true true e =
        let low : 8 ≤ first / 16 = leb-true _ _ (and_left (leb 8 (first / 16)) _ e) in
        let high : first / 16 ≤ 14 = leb-true _ _ (and_right (leb 8 (first / 16)) _ e) in
        omega arith
    go true false e = let high : first / 16 ≤ 6 = leb-true _ _ e in omega arith
    go false true e = let same-value : first / 16 ≡ 8 + x.value = eqb-true _ _ e in omega arith
    go false false e = let same-value : first / 16 ≡ x.value = eqb-true _ _ e in omega arith

-- What rule 1 lets through.
pub record Ours (protocol : Protocol) (x : Context) (s : List ℕ) : Type 0 where
  pub calling : same x.state U0 ≡ false
  pub two : ltb (length s) 2 ≡ false
  pub discriminated : eqb (get_or s 0 0 % 16) (discriminator protocol) ≡ true
  pub transacted : transaction_fits x (get_or s 0 0) ≡ true

-- What is left after rule 1 goes by the type, and after rule 2 by what reading gives.
module _ (table : Table) (identity : List ℕ) (x : Context) (mode : ℕ) (s : List ℕ) (ours : Ours (protocol_of table) x s) where
  pub due_typed : (cause : ℕ) → cause ≡ type_cause table x (get_or s 1 0) → (cause ≡ 0 → ⊥) → Reported cause ≡ due_of table identity x mode s
  unfolding due_of
  due_typed cause e n = rw (ours.calling, ours.two, ours.discriminated, ours.transacted, ← e, ne_eqb cause 0 n)

  module _ (none : type_cause table x (get_or s 1 0) ≡ 0) (r : Due) where
    pub due_read : (read : Reading) (protocol : Protocol) → protocol ≡ protocol_of table → read_message (protocol_of table) s ≡ Ok read
        → r ≡ understood_due protocol identity mode s read.value read.message → r ≡ due_of table identity x mode s
    unfolding due_of reading_due
    due_read read protocol q e p =
        rw (ours.calling, ours.two, ours.discriminated, ours.transacted, none, e)
        (subst (λ (a : Protocol). r ≡ understood_due a identity mode s read.value read.message) q p)

    pub due_unread : (unread : Unread) → read_message (protocol_of table) s ≡ Err unread → r ≡ Reported 96 → r ≡ due_of table identity x mode s
    unfolding due_of reading_due
    due_unread unread e p = rw (ours.calling, ours.two, ours.discriminated, ours.transacted, none, e) p

-- What holds of "ignored", of each report and of the step of each message holds of what is due to any octets. A message that is reported or stepped with is of the
-- context's transaction, and its value is that of its first octet.
module _ (P : Due → Type 0) (ignored : (reason : Reason) → P (Ignored reason)) (x : Context) (s : List ℕ)
    (reported : transaction_fits x (get_or s 0 0) ≡ true → (cause : ℕ) → P (Reported cause))
    (steps : transaction_fits x (get_or s 0 0) ≡ true → (mode : ℕ) (m : Message) → P (Steps (Received mode (get_or s 0 0 / 16 % 8) m))) where
  module _ (ours : transaction_fits x (get_or s 0 0) ≡ true) where
    every_understood : (protocol : Protocol) (identity : List ℕ) (mode : ℕ) (m : Message) → P (understood_due protocol identity mode s (get_or s 0 0 / 16 % 8) m)
    unfolding understood_due
    every_understood protocol identity mode m =
        at_cond P (eqb mode 1 && is_other identity s (asked_of m).identity) _ _ (λ e. ignored _)
        (λ e. at_cond P (must_name_us protocol && (asked_of m).disowns) _ _ (λ e. reported ours 95) (λ e. steps ours mode m))

    every_body : (protocol : Protocol) (identity : List ℕ) (mode : ℕ) (flag : Bool) (b : Result Message Fault) → P (reading_due (understood_due protocol identity mode s) (read_as flag (get_or s 0 0 / 16 % 8) b))
    unfolding reading_due
    every_body protocol identity mode flag (Ok m) = every_understood protocol identity mode m
    every_body protocol identity mode flag (Err fault) = reported ours 96

    every-read : (protocol : Protocol) (identity : List ℕ) (mode : ℕ) → P (reading_due (understood_due protocol identity mode s) (read_message protocol s))
    unfolding read_message reading_due
    every-read protocol identity mode =
        let go : Result Reading Unread → Due = reading_due (understood_due protocol identity mode s) in
        at_cond (λ r. P (go r)) (ltb 251 (length s)) _ _ (λ e. reported ours 96)
        (λ e. at_cond (λ r. P (go r)) (ltb (length s) 2) _ _ (λ e. reported ours 96)
        (λ e. at_cond (λ r. P (go r)) (eqb (get_or s 0 0 % 16) (discriminator protocol)) _ _
        (λ e. at_cond (λ r. P (go r)) (leb 128 (get_or s 1 0)) _ _ (λ e. reported ours 96) (λ e. every_body protocol identity mode _ (body_of protocol s (get_or s 1 0 % 64))))
        (λ e. reported ours 96)))

  pub every_due : (table : Table) (identity : List ℕ) (mode : ℕ) → P (due_of table identity x mode s)
  unfolding due_of
  every_due table identity mode =
      at_cond P (same x.state U0) _ _ (λ e. ignored _)
      (λ e. at_cond P (ltb (length s) 2) _ _ (λ e. ignored _)
      (λ e. at_cond P (not (eqb (get_or s 0 0 % 16) (discriminator (protocol_of table)))) _ _ (λ e. ignored _)
      (λ e. at_cond P (not (transaction_fits x (get_or s 0 0))) _ _ (λ e. ignored _)
      (λ fits. at_cond P (not (eqb (type_cause table x (get_or s 1 0)) 0)) _ _ (λ e. reported (not-false _ fits) (type_cause table x (get_or s 1 0)))
      (λ e. every-read (not-false _ fits) (protocol_of table) identity mode)))))
