-- The runs of every message that was read lie within its octets, whatever its transaction value.
use Prim.Native.Nat.{ℕ, ◌+◌}
use mathlib.Core.Path.{◌≡◌, refl, ap, ◌∙◌}
use mathlib.Core.List.{List}
use mathlib.Core.Bool.{true}
use borrow.Author.Tests.{le-leb}
use Rattle.codes.specs.declared.protocol.Protocol.{Protocol}
use Rattle.codes.specs.declared.protocol.Protocol.TheVariants.{Broadcast, Group}
use Rattle.octets.specs.declared.Run.{Run}
use Rattle.std.specs.Prelude.{Option, Some, None, Result, Ok, Err}
use Rattle.std.specs.Result.{result_ok}
use Rattle.element.specs.declared.Miscount.{Miscount}
use Rattle.element.specs.Elements.{element_from}
use Rattle.element.specs.Counted.{counted_at}
use Rattle.element.proofs.Counting.{Lies, counted-told, Told as Counts}
use Rattle.message.specs.declared.Reading.{Reading}
use Rattle.message.specs.declared.Message.TheVariants.{GetStatus}
use Rattle.message.specs.Content.{lies, runs_lie}
use Rattle.message.specs.Reading.{identity_behind, identity_found, read_message}
use Rattle.message.proofs.Each.{RejectLies, Each, of_read}

module _ (s : List ℕ) where
  -- A counted run lies within the octets.
  run_lies : (at low high : ℕ) (run : Run) → Lies s at low high run → lies s run ≡ true
  unfolding lies
  run_lies at low high run l = le-leb _ _ l.fits

  ok-lies : (at : ℕ) (c : Result Run Miscount) → Counts s at 1 8 c → runs_lie s (GetStatus (result_ok c)) ≡ true
  ok-lies at (Ok run) t = run_lies at 1 8 run t
  ok-lies at (Err miscount) t = refl

  identity-lies : (found : Option (ℕ × ℕ)) → runs_lie s (GetStatus (identity_found s found)) ≡ true
  unfolding identity_behind
  identity-lies None = refl
  identity-lies (Some (at, identifier)) = ok-lies (at + 1) (counted_at s (at + 1) 1 8) (counted-told s (at + 1) 1 8)

  reject_lies : (protocol : Protocol) (run : Run) → RejectLies protocol s run → lies s run ≡ true
  unfolding lies
  reject_lies Broadcast run l = le-leb _ _ l.fits
  reject_lies Group run l = ap (lies s) l.0 ∙ le-leb _ _ l.1

  each : (protocol : Protocol) → Each protocol s (λ m. runs_lie s m ≡ true)
  each protocol = record {
    connect = refl;
    get_status = identity-lies (element_from s 2 0x17 0x17);
    immediate_setup = λ run l. run_lies 7 1 8 run l;
    set_parameter = refl;
    setup = refl;
    status = λ run l. run_lies 2 1 247 run l;
    termination = λ run l. run_lies 2 1 247 run l;
    termination_reject = reject_lies protocol;
    termination_request = refl;
  }

  pub read-lies : (protocol : Protocol) (read : Reading) → read_message protocol s ≡ Ok read → runs_lie s read.message ≡ true
  read-lies protocol = of_read protocol s (λ m. runs_lie s m ≡ true) (λ few. each protocol)
