-- The numbers of a message, taken back, are that message; and so are those of every message that was read.
use Prim.Native.Nat.{ℕ, ◌+◌}
use mathlib.Core.Path.{◌≡◌, refl, ap, ◌∙◌}
use mathlib.Core.List.{List}
use mathlib.Core.Bool.{Bool, true, false}
use native.Mathlib.Omega.{arith}
use lib.Dec.{leb, eqb}
use borrow.Author.Tests.{ne_eqb}
use Rattle.codes.specs.declared.protocol.Protocol.{Protocol}
use Rattle.std.specs.Prelude.{Option, Some, None, Result, Ok, Err}
use Rattle.element.specs.declared.Miscount.{Miscount}
use Rattle.octets.specs.declared.Run.{Run}
use Rattle.std.specs.Result.{result_ok}
use Rattle.message.specs.declared.Reading.{Reading}
use Rattle.element.specs.Elements.{element_from}
use Rattle.element.specs.Counted.{counted_at}
use Rattle.element.proofs.Elements.{within_says}
use Rattle.element.proofs.Counting.{counted-told, Told as Counts}
use Rattle.message.specs.declared.Message.{Message}
use Rattle.message.specs.declared.Message.TheVariants.{
  Connect,
  GetStatus,
  ImmediateSetup,
  SetParameter,
  Setup,
  Status,
  Termination,
  TerminationReject,
  TerminationRequest,
}
use Rattle.message.specs.Reading.{identity_behind, identity_found, read_message}
use Rattle.message.proofs.Each.{Each, of_read}
use Rattle.message_numbers.specs.Numbers.{flag_number, numbers_of, status_of, kind_of, message_of}
use Rattle.message_numbers.specs.Back.{Shown, Means}

-- The numbers of a message have its flag and its transaction value.
heads : (f : Bool) (v : ℕ) (m : Message) → ((numbers_of f v m).flag ≡ flag_number f) × ((numbers_of f v m).value ≡ v)
unfolding numbers_of
heads f v (Connect r o) = (refl, refl)
heads f v (GetStatus i) = (refl, refl)
heads f v (ImmediateSetup k c i r) = (refl, refl)
heads f v (SetParameter a) = (refl, refl)
heads f v (Setup r) = (refl, refl)
heads f v (Status c x y) = (refl, refl)
heads f v (Termination c) = (refl, refl)
heads f v (TerminationReject c) = (refl, refl)
heads f v (TerminationRequest r) = (refl, refl)

kinds : (f : Bool) (v : ℕ) (m : Message) → Shown m → kind_of (numbers_of f v m) ≡ Some m
unfolding numbers_of status_of kind_of
kinds f v (Connect r o) h = refl
kinds f v (GetStatus None) h = refl
kinds f v (GetStatus (Some i)) h = rw (ne_eqb i.count 0 (λ e. omega arith))
kinds f v (ImmediateSetup k c i r) h = refl
kinds f v (SetParameter a) h = refl
kinds f v (Setup r) h = refl
kinds f v (Status c None None) h = refl
kinds f v (Status c None (Some y)) h = refl
kinds f v (Status c (Some x) None) h = refl
kinds f v (Status c (Some x) (Some y)) h = refl
kinds f v (Termination c) h = refl
kinds f v (TerminationReject c) h = refl
kinds f v (TerminationRequest r) h = refl

-- A flag as a number is in range, and is that flag.
flags : (f : Bool) → (leb (flag_number f) 1 ≡ true) × (eqb (flag_number f) 1 ≡ f)
flags true = (refl, refl)
flags false = (refl, refl)

pub taken_back : (f : Bool) (v : ℕ) (m : Message) → Shown m → Means (numbers_of f v m) f v m
unfolding message_of
taken_back f v m h =
    let low : leb (numbers_of f v m).flag 1 ≡ true = ap (λ (x : ℕ). leb x 1) (heads f v m).0 ∙ (flags f).0 in
    record {
      meant = rw low (kinds f v m h);
      same_flag = ap (λ (x : ℕ). eqb x 1) (heads f v m).0 ∙ (flags f).1;
      same-value = (heads f v m).1;
    }

-- An optional identity that was read has an octet at least.
module _ (s : List ℕ) where
  identities : (at : ℕ) (c : Result Run Miscount) → Counts s at 1 8 c → Shown (GetStatus (result_ok c))
  identities at (Ok r) t = (within_says r.count 1 8 t.within).0
  identities at (Err miscount) t = tt

  identity : (found : Option (ℕ × ℕ)) → Shown (GetStatus (identity_found s found))
  unfolding identity_behind
  identity None = tt
  identity (Some (at, identifier)) = identities (at + 1) (counted_at s (at + 1) 1 8) (counted-told s (at + 1) 1 8)

  each : (protocol : Protocol) → Each protocol s Shown
  each protocol = record {
    connect = tt;
    get_status = identity (element_from s 2 0x17 0x17);
    immediate_setup = λ r l. tt;
    set_parameter = tt;
    setup = tt;
    status = λ r l. tt;
    termination = λ r l. tt;
    termination_reject = λ r l. tt;
    termination_request = tt;
  }

  -- The numbers of every message that was read, taken back, are that message.
  pub read-taken-back : (protocol : Protocol) (read : Reading) → read_message protocol s ≡ Ok read
      → Means (numbers_of read.flag read.value read.message) read.flag read.value read.message
  read-taken-back protocol read e = taken_back read.flag read.value read.message (of_read protocol s Shown (λ few. each protocol) read e)
