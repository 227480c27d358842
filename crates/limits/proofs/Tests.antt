-- Laws of the writer's tests: what a run's test and a STATUS's test say when they hold.
use Prim.Native.Nat.{ℕ, ◌+◌, ◌≤◌, ◌<◌}
use mathlib.Core.Path.{◌≡◌, refl, sym, ap, ◌∙◌}
use mathlib.Core.List.{List}
use mathlib.Core.Bool.{Bool, true, false, ◌&&◌, and-false}
use native.Mathlib.Omega.{arith}
use lib.ListN.{length}
use lib.Dec.{leb}
use borrow.Author.Tests.{le-leb, lt-leb, leb-true, ltb-true}
use Rattle.octets.proofs.Choice.{never}
use Rattle.octets.specs.declared.Run.{Run}
use Rattle.std.specs.Prelude.{Option, Some, None}
use Rattle.message.specs.Content.{run_octets, lies}
use Rattle.octets.proofs.Stores.{part_length}
use Rattle.message.specs.Tables.{format_tv, octets_of}
use Rattle.limits.specs.Limits.{run_fits, half_fits, half_count, status_fits}

-- Both sides of a conjunction that holds.
pub and_left : (a b : Bool) → a && b ≡ true → a ≡ true
and_left true b e = refl
and_left false b e = never e

pub and_right : (a b : Bool) → a && b ≡ true → b ≡ true
and_right true b e = e
and_right false b e = never e

module _ (s : List ℕ) (run : Run) (least most : ℕ) where
  pub run_none : run.count < least → false ≡ run_fits s run least most
  unfolding run_fits
  run_none h = simp (lt-leb _ _ h)

  pub run_many : least ≤ run.count → most < run.count → false ≡ run_fits s run least most
  unfolding run_fits
  run_many h k = simp (le-leb _ _ h, lt-leb _ _ k)

  pub run_past : length s < run.start + run.count → false ≡ run_fits s run least most
  unfolding run_fits lies
  run_past h = simp (lt-leb _ _ h, and-false)

  pub run-good : least ≤ run.count → run.count ≤ most → run.start + run.count ≤ length s → true ≡ run_fits s run least most
  unfolding run_fits lies
  run-good h k l = simp (le-leb _ _ h, le-leb _ _ k, le-leb _ _ l)

  -- What a run's test says.
  pub record Good : Type 0 where
    pub some : least ≤ run.count
    pub few : run.count ≤ most
    pub there : run.start + run.count ≤ length s
    pub full : length (run_octets s run) ≡ run.count

  pub good : run_fits s run least most ≡ true → Good
  unfolding run_fits lies
  good e =
      let front : leb least run.count && leb run.count most ≡ true = and_left _ (lies s run) e in
      let l : run.start + run.count ≤ length s = leb-true _ _ (and_right (leb least run.count && leb run.count most) _ e) in
      record {
        some = leb-true _ _ (and_left (leb least run.count) (leb run.count most) front);
        few = leb-true _ _ (and_right (leb least run.count) (leb run.count most) front);
        there = l;
        full = part_length s run.start run.count l;
      }

-- An optional half octet takes at most one octet, and is below 16 where it fits.
pub half_count_lem : (identifier : ℕ) (half : Option ℕ) → length (octets_of (format_tv identifier half)) ≡ half_count half
half_count_lem identifier None = refl
half_count_lem identifier (Some value) = refl

pub half_small : (half : Option ℕ) → half_count half ≤ 1
half_small None = omega arith
half_small (Some value) = omega arith

pub half_room : (half : Option ℕ) (value at room : ℕ) → half ≡ Some value → at + half_count half ≤ room → at < room
half_room half value at room e h = let k : half_count half ≡ 1 = ap half_count e in omega arith

pub half_below : (half : Option ℕ) (value : ℕ) → half ≡ Some value → half_fits half ≡ true → value < 16
half_below half value e g = ltb-true value 16 (sym (ap half_fits e) ∙ g)

module _ (s : List ℕ) (cause : Run) (state attributes : Option ℕ) where
  pub status-run : run_fits s cause 1 247 ≡ false → false ≡ status_fits s cause state attributes
  unfolding status_fits
  status-run r = simp r

  pub status-state : run_fits s cause 1 247 ≡ true → half_fits state ≡ false → false ≡ status_fits s cause state attributes
  unfolding status_fits
  status-state r x = simp (r, x)

  pub status_attributes : run_fits s cause 1 247 ≡ true → half_fits state ≡ true → half_fits attributes ≡ false
      → false ≡ status_fits s cause state attributes
  unfolding status_fits
  status_attributes r x y = simp (r, x, y)

  pub status-total : (p q : ℕ) → run_fits s cause 1 247 ≡ true → half_fits state ≡ true → half_fits attributes ≡ true → p ≡ half_count state
      → q ≡ half_count attributes → leb (3 + cause.count + p + q) 251 ≡ status_fits s cause state attributes
  unfolding status_fits
  status-total p q r x y a b = simp (r, x, y, a, b)

  -- What a STATUS's test says.
  pub record Fine : Type 0 where
    pub run : run_fits s cause 1 247 ≡ true
    pub first : half_fits state ≡ true
    pub second : half_fits attributes ≡ true
    pub total : 3 + cause.count + half_count state + half_count attributes ≤ 251

  pub fine : status_fits s cause state attributes ≡ true → Fine
  unfolding status_fits
  fine e =
      let total : Bool = leb (3 + cause.count + half_count state + half_count attributes) 251 in
      let three : run_fits s cause 1 247 && half_fits state && half_fits attributes ≡ true = and_left _ total e in
      let two : run_fits s cause 1 247 && half_fits state ≡ true = and_left _ (half_fits attributes) three in
      record {
        run = and_left _ (half_fits state) two;
        first = and_right (run_fits s cause 1 247) _ two;
        second = and_right (run_fits s cause 1 247 && half_fits state) _ three;
        total = leb-true _ _ (and_right (run_fits s cause 1 247 && half_fits state && half_fits attributes) _ e);
      }
