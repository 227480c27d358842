-- The step that C calls, from the step by value up: one law for each function on the way.
use Prim.Native.Nat.{ℕ, ◌+◌, ◌-◌}
use mathlib.Core.Path.{◌≡◌, refl, ap, ◌∙◌}
use mathlib.Core.List.{List}
use native.Mathlib.Omega.{arith}
use lib.ListN.{length}
use lib.Seq.{sets}
use Rattle.octets.specs.Run.{part}
use Rattle.octets.specs.declared.Run.{Run}
use Rattle.message.specs.declared.Own.{Own}
use Rattle.context.specs.declared.Context.{Context}
use Rattle.version.specs.declared.Table.{Table}
use Rattle.radio.specs.declared.Happened.{Happened}
use Rattle.radio.specs.declared.Stepped.{Stepped}
use Rattle.radio.specs.Step.{Reaction, shown, step_of}
use Rattle.std.specs.Prelude.{Some, None}
use Rattle.context_octets.specs.Octets.{context_of, octets_of}
use Rattle.settings_octets.specs.Octets.{identity_of, identity_run, own_of}
use Rattle.step_numbers.specs.declared.Occurrence.{Occurrence}
use Rattle.step_numbers.specs.declared.Step.{Step}
use Rattle.step_numbers.specs.Stepping.{Comes, call_from, call_of, call_on, called, happened_of, no_call, step_shown}

-- The step by value: a part from a start to an end is the run.
module _ (table : Table) (own : Own) (s d : List ℕ) (start count : ℕ) (x : Context) (e : Occurrence) (h : Happened) (m : List ℕ) (a : h ≡ happened_of e) where
  same : step_of table own (part s start (start + count - start)) (length d) x h m ≡ step_of table own (part s start count) (length d) x (happened_of e) m
  same = let n : start + count - start ≡ count = omega arith in rw (a, n)

  pub stepped-run : (r : Stepped) (after : List ℕ) → r ≡ shown (step_of table own (part s start (start + count - start)) (length d) x h m)
      → after ≡ sets d 0 (step_of table own (part s start (start + count - start)) (length d) x h m).reply
      → (r ≡ shown (step_of table own (part s start count) (length d) x (happened_of e) m))
      × (after ≡ sets d 0 (step_of table own (part s start count) (length d) x (happened_of e) m).reply)
  stepped-run r after p q = (p ∙ ap shown same, q ∙ ap (λ (z : Reaction). sets d 0 z.reply) same)

-- From a context that was read.
module _ (table : Table) (s d : List ℕ) (x : Context) (e : Occurrence) (m : List ℕ) (own : Own) (run : Run) (o : own ≡ own_of s) (u : run ≡ identity_run s) where
  same_from : step_of table own (part s run.start run.count) (length d) x (happened_of e) m ≡ step_of table (own_of s) (identity_of s) (length d) x (happened_of e) m
  same_from = rw (o, u)

  pub call_from_lem : (come : Stepped) (after : List ℕ) → come ≡ shown (step_of table own (part s run.start run.count) (length d) x (happened_of e) m)
      → after ≡ sets d 0 (step_of table own (part s run.start run.count) (length d) x (happened_of e) m).reply
      → (octets : List ℕ) → octets ≡ octets_of come.context → (r : Step) → r ≡ step_shown come.outcome
      → Comes (call_from table s (length d) e m x) d r octets after
  unfolding call_from called
  call_from_lem come after p q octets w r v =
      let k : come ≡ shown (step_of table (own_of s) (identity_of s) (length d) x (happened_of e) m) = p ∙ ap shown same_from in (
        v ∙ ap (λ (z : Stepped). step_shown z.outcome) k,
        w ∙ ap (λ (z : Stepped). octets_of z.context) k,
        q ∙ ap (λ (z : Reaction). sets d 0 z.reply) same_from,
      )

-- The call: the octets are a context, or none.
module _ (table : Table) (c s d : List ℕ) (e : Occurrence) (m : List ℕ) where
  pub call_is : (x : Context) → context_of c ≡ Some x → (r : Step) (octets after : List ℕ) → Comes (call_from table s (length d) e m x) d r octets after
      → Comes (call_of table c s (length d) e m) d r octets after
  unfolding call_of call_on
  call_is x i r octets after p = rw i p

  pub call_none : context_of c ≡ None → Comes (call_of table c s (length d) e m) d (no_call c).step c d
  unfolding call_of call_on
  call_none n = rw n (refl, refl, refl)
