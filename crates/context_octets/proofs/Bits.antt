-- Laws of four bits in a number: what the code computes from `bool as u8` fits an octet, and is the definition's number.
use Prim.Native.Nat.{ℕ, ◌≤◌, ◌<◌, ◌+◌, ◌*◌}
use mathlib.Core.Path.{◌≡◌, refl, sym, ◌∙◌}
use mathlib.Core.Bool.{Bool, true, false}
use native.Mathlib.Omega.{arith}
use native.Mathlib.Nat.{zero-add}
use mir.Val.{bool_byte}
use Rattle.codes.specs.declared.attributes.Parameters.{Parameters}
use Rattle.codes.specs.Attributes.{parameters_number, weighs}
use Rattle.timer.specs.declared.Timers.{Timers}
use Rattle.context.specs.declared.Chooser.{Chooser}
use Rattle.context.specs.declared.Chooser.TheVariants.{Neither, Us, Cell}
use Rattle.context.specs.declared.Talk.{Talk}
use Rattle.context.specs.Talk.{chooser_number}
use Rattle.context_octets.specs.Octets.{bit, four_number, talk_number, timers_number}

byte_most : (set : Bool) → bool_byte set ≤ 1
byte_most true = omega arith
byte_most false = omega arith

byte_bit : (set : Bool) → bool_byte set ≡ bit set
byte_bit true = refl
byte_bit false = refl

-- A bit's weight, and the sums on the way, are octets.
pub weight_fits : (n : ℕ) (a : Bool) → n ≤ 16 → n * bool_byte a < 256
weight_fits n true h = omega arith
weight_fits n false h = omega arith

pub two_fit : (a b : Bool) → 8 * bool_byte a + 4 * bool_byte b < 256
two_fit a b = omega (arith, byte_most a, byte_most b)

pub three-fit : (a b c : Bool) → 8 * bool_byte a + 4 * bool_byte b + 2 * bool_byte c < 256
three-fit a b c = omega (arith, byte_most a, byte_most b, byte_most c)

pub four-fit : (a b c d : Bool) → 8 * bool_byte a + 4 * bool_byte b + 2 * bool_byte c + bool_byte d < 256
four-fit a b c d = omega (arith, byte_most a, byte_most b, byte_most c, byte_most d)

pub four_same : (a b c d : Bool) → 8 * bool_byte a + 4 * bool_byte b + 2 * bool_byte c + bool_byte d ≡ four_number a b c d
unfolding four_number
four_same a b c d = rw (byte_bit a, byte_bit b, byte_bit c, byte_bit d)

-- Four bits are at most 15.
pub bit-most : (set : Bool) → bit set ≤ 1
bit-most true = omega arith
bit-most false = omega arith

pub four-most : (a b c d : Bool) → four_number a b c d ≤ 15
unfolding four_number
four-most a b c d = omega (arith, bit-most a, bit-most b, bit-most c, bit-most d)

-- The parameters' number is that of their four bits.
weight : (set : Bool) (n : ℕ) → weighs set n ≡ n * bit set
unfolding weighs
weight true n = omega arith
weight false n = omega arith

pub parameters-four : (p : Parameters) → parameters_number p ≡ four_number p.orig p.comm p.datt p.uatt
unfolding four_number parameters_number
parameters-four p = rw (weight p.orig 8, weight p.comm 4, weight p.datt 2, weight p.uatt 1) (omega arith)

-- The timers' number, with T_pres and without.
module _ (t : Timers) (four : ℕ) (is : four ≡ four_number t.mmest t.term t.connreq t.nochannel) where
  pub with_sixteen : t.pres ≡ true → 16 + four ≡ timers_number t
  unfolding timers_number
  with_sixteen e = rw (e, is)

  pub without_sixteen : t.pres ≡ false → four ≡ timers_number t
  unfolding timers_number
  without_sixteen e = rw e (is ∙ sym (zero-add _))

-- What a group call keeps: the sums on the way are octets, and the last is the definition's number.
pub chooser_most : (c : Chooser) → chooser_number c ≤ 2
chooser_most Neither = omega arith
chooser_most Us = omega arith
chooser_most Cell = omega arith

pub awaited_fit : (a b : Bool) → 16 * bool_byte a + 8 * bool_byte b < 256
awaited_fit a b = omega (arith, byte_most a, byte_most b)

pub pending-fit : (a b c : Bool) → 16 * bool_byte a + 8 * bool_byte b + 4 * bool_byte c < 256
pending-fit a b c = omega (arith, byte_most a, byte_most b, byte_most c)

module _ (k : Talk) (side : ℕ) (is : side ≡ chooser_number k.chooser) where
  pub talk_fit : 16 * bool_byte k.awaiting + 8 * bool_byte k.status + 4 * bool_byte k.termination + side < 256
  talk_fit = omega (arith, byte_most k.awaiting, byte_most k.status, byte_most k.termination, chooser_most k.chooser, is)

  pub talk_same : 16 * bool_byte k.awaiting + 8 * bool_byte k.status + 4 * bool_byte k.termination + side ≡ talk_number k
  unfolding talk_number
  talk_same = rw (byte_bit k.awaiting, byte_bit k.status, byte_bit k.termination, is)
