-- What a message that fits its table is like, in numbers.
use Prim.Native.Nat.{ℕ, ◌+◌, ◌≤◌, ◌<◌}
use mathlib.Core.Path.{◌≡◌}
use mathlib.Core.List.{List}
use mathlib.Core.Bool.{Bool, true, ◌&&◌}
use native.Mathlib.Omega.{arith}
use lib.ListN.{length}
use lib.Dec.{leb, ltb, eqb}
use borrow.Author.Tests.{leb-true, ltb-true, eqb-true}
use Rattle.codes.specs.declared.protocol.Protocol.{Protocol}
use Rattle.codes.specs.declared.protocol.Protocol.TheVariants.{Broadcast, Group}
use Rattle.std.specs.Prelude.{Option, Some, None}
use Rattle.message.specs.Content.{
  Content,
  connect,
  get_status,
  immediate_setup,
  set_parameter,
  setup,
  status,
  termination,
  termination_reject,
  termination_request,
}
use Rattle.message.specs.Tables.{format_tv, table, written, fits, rows_fit, count_fits, element_fits}
use Rattle.limits.proofs.Tests.{and_left, and_right}

abbrev pub HalfDrawn : Option ℕ → Type 0
HalfDrawn None = Unit {0}
HalfDrawn (Some value) = value < 16

-- A run of 1 to `most` octets.
abbrev pub RunDrawn : ℕ → List ℕ → Type 0
RunDrawn most octets = (1 ≤ length octets) × (length octets ≤ most)

abbrev pub IdentityDrawn : Option (List ℕ) → Type 0
IdentityDrawn None = Unit {0}
IdentityDrawn (Some octets) = RunDrawn 8 octets

-- The cause of a TERMINATION REJECT, as the protocol draws it.
abbrev pub RejectDrawn : Protocol → List ℕ → Type 0
RejectDrawn Broadcast octets = RunDrawn 247 octets
RejectDrawn Group octets = length octets ≡ 4

abbrev pub Drawn : Protocol → Content → Type 0
Drawn protocol (connect r o) = o < 2
Drawn protocol (get_status i) = IdentityDrawn i
Drawn protocol (immediate_setup k c i r) = (k < 8) × RunDrawn 8 i
Drawn protocol (set_parameter a) = a < 16
Drawn protocol (setup r) = Unit {0}
Drawn protocol (status c x y) = RunDrawn 247 c × HalfDrawn x × HalfDrawn y
Drawn protocol (termination c) = RunDrawn 247 c
Drawn protocol (termination_reject c) = RejectDrawn protocol c
Drawn protocol (termination_request r) = Unit {0}

run-drawn : (most : ℕ) (octets : List ℕ) → count_fits 2 (1 + most) octets ≡ true → RunDrawn most octets
run-drawn most octets e =
    let a : 2 ≤ 1 + length octets = leb-true _ _ (and_left (leb 2 (1 + length octets)) _ e) in
    let b : 1 + length octets ≤ 1 + most = leb-true _ _ (and_right (leb 2 (1 + length octets)) _ e) in (omega arith, omega arith)

half_drawn : (identifier : ℕ) (half : Option ℕ) → element_fits (format_tv identifier half) ≡ true → HalfDrawn half
half_drawn identifier None e = tt
half_drawn identifier (Some value) e = ltb-true _ _ e

reject_drawn : (protocol : Protocol) (c : List ℕ) → rows_fit (table protocol (termination_reject c)) ≡ true → RejectDrawn protocol c
unfolding table
reject_drawn Broadcast c e = run-drawn 247 c (and_left (count_fits 2 248 c) true e)
reject_drawn Group c e = eqb-true _ _ (and_left (eqb (length c) 4) true e)

rows-drawn : (protocol : Protocol) (c : Content) → rows_fit (table protocol c) ≡ true → Drawn protocol c
unfolding table
rows-drawn protocol (connect r o) e = ltb-true _ _ (and_left (ltb o 2) true (and_left (ltb o 2 && true) true e))
rows-drawn protocol (get_status None) e = tt
rows-drawn protocol (get_status (Some i)) e =
    let t : leb 3 (2 + length i) && leb (2 + length i) 10 ≡ true = and_left _ true e in
    let a : 3 ≤ 2 + length i = leb-true _ _ (and_left (leb 3 (2 + length i)) _ t) in
    let b : 2 + length i ≤ 10 = leb-true _ _ (and_right (leb 3 (2 + length i)) _ t) in (omega arith, omega arith)
rows-drawn protocol (immediate_setup k c i r) e =
    (ltb-true _ _ (and_left (ltb k 8) _ e), run-drawn 8 i (and_left (count_fits 2 9 i) true (and_right (ltb k 8) _ e)))
rows-drawn protocol (set_parameter a) e = ltb-true _ _ (and_left (ltb a 16) true (and_left (ltb a 16 && true) true e))
rows-drawn protocol (setup r) e = tt
rows-drawn protocol (status c x y) e =
    let rest : element_fits (format_tv 0xA x) && (element_fits (format_tv 0xB y) && true) ≡ true = and_right (count_fits 2 248 c) _ e in (
      run-drawn 247 c (and_left (count_fits 2 248 c) _ e),
      half_drawn 0xA x (and_left (element_fits (format_tv 0xA x)) _ rest),
      half_drawn 0xB y (and_left (element_fits (format_tv 0xB y)) true (and_right (element_fits (format_tv 0xA x)) _ rest)),
    )
rows-drawn protocol (termination c) e = run-drawn 247 c (and_left (count_fits 2 248 c) true e)
rows-drawn protocol (termination_reject c) e = reject_drawn protocol c e
rows-drawn protocol (termination_request r) e = tt

-- What `fits` says.
pub record Fitting (protocol : Protocol) (flag : Bool) (value : ℕ) (content : Content) : Type 0 where
  pub six : value ≤ 6
  pub drawn : Drawn protocol content
  pub few : length (written protocol flag value content) ≤ 251

pub fitting : (protocol : Protocol) (flag : Bool) (value : ℕ) (content : Content) → fits protocol flag value content ≡ true → Fitting protocol flag value content
unfolding fits
fitting protocol flag value content e =
    let rest : rows_fit (table protocol content) && leb (length (written protocol flag value content)) 251 ≡ true = and_right (leb value 6) _ e in
    record {
      six = leb-true _ _ (and_left (leb value 6) _ e);
      drawn = rows-drawn protocol content (and_left (rows_fit (table protocol content)) _ rest);
      few = leb-true _ _ (and_right (rows_fit (table protocol content)) _ rest);
    }
