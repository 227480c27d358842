-- Timers by their numbers: whether two are the same, as the code asks it; that none has number 0; how long one is; which runs, and which ends.
use Prim.Native.Nat.{ℕ}
use mathlib.Core.Path.{◌≡◌, refl}
use native.Mathlib.Omega.{arith}
use lib.Dec.{eqb}
use denote.Enum.Bare.{sameb}
use Rattle.std.specs.Prelude.{Option, Some, None}
use Rattle.std.specs.Option.{option_eq}
use Rattle.timer.specs.declared.Timers.{Timers}
use Rattle.timer.specs.declared.Timer.{Timer}
use Rattle.timer.specs.declared.Timer.TheVariants.{MmEst, Term, ConnReq, NoChannel, Pres}
use Rattle.timer.specs.contracts.Timer.{the_type}
use Rattle.timer.specs.contracts.TimerPartialEq as TimerPartialEq
use Rattle.timer.specs.Timers.{timer_row, timer_number, number_of_any, running_timer, running_among, expired_timer, expiry_of, length_of}

pub same_by_number : (a b : Timer) → sameb the_type a b ≡ eqb (timer_number a) (timer_number b)
same_by_number = elim [
  | MmEst ↦ elim [ MmEst ↦ refl | Term ↦ refl | ConnReq ↦ refl | NoChannel ↦ refl | Pres ↦ refl ]
  | Term ↦ elim [ MmEst ↦ refl | Term ↦ refl | ConnReq ↦ refl | NoChannel ↦ refl | Pres ↦ refl ]
  | ConnReq ↦ elim [ MmEst ↦ refl | Term ↦ refl | ConnReq ↦ refl | NoChannel ↦ refl | Pres ↦ refl ]
  | NoChannel ↦ elim [ MmEst ↦ refl | Term ↦ refl | ConnReq ↦ refl | NoChannel ↦ refl | Pres ↦ refl ]
  | Pres ↦ elim [ MmEst ↦ refl | Term ↦ refl | ConnReq ↦ refl | NoChannel ↦ refl | Pres ↦ refl ]
]

none_first : (b : Timer) → option_eq TimerPartialEq.TheImpl.eq-value.it None (Some b) ≡ eqb 0 (timer_number b)
none_first = elim [ MmEst ↦ refl | Term ↦ refl | ConnReq ↦ refl | NoChannel ↦ refl | Pres ↦ refl ]

none_second : (a : Timer) → option_eq TimerPartialEq.TheImpl.eq-value.it (Some a) None ≡ eqb (timer_number a) 0
none_second = elim [ MmEst ↦ refl | Term ↦ refl | ConnReq ↦ refl | NoChannel ↦ refl | Pres ↦ refl ]

pub any_same_by_number : (a b : Option Timer) → option_eq TimerPartialEq.TheImpl.eq-value.it a b ≡ eqb (number_of_any a) (number_of_any b)
any_same_by_number None None = refl
any_same_by_number None (Some b) = none_first b
any_same_by_number (Some a) None = none_second a
any_same_by_number (Some a) (Some b) = same_by_number a b

pub number_is_some : (k : Timer) → timer_number k ≡ 0 → ⊥
number_is_some = elim [ MmEst ↦ λ z. omega (arith, z) | Term ↦ λ z. omega (arith, z) | ConnReq ↦ λ z. omega (arith, z) | NoChannel ↦ λ z. omega (arith, z) | Pres ↦ λ z. omega (arith, z) ]

pub length_by_number : (joining invitation : ℕ) (k : Timer) → (timer_row joining invitation k).milliseconds ≡ length_of joining invitation (timer_number k)
unfolding length_of
length_by_number joining invitation = elim [ MmEst ↦ refl | Term ↦ refl | ConnReq ↦ refl | NoChannel ↦ refl | Pres ↦ refl ]

pub running_by_number : (t : Timers) → number_of_any (running_timer t) ≡ running_among t
unfolding running_timer running_among
running_by_number t = refl

pub expired_by_number : (event : ℕ) → number_of_any (expired_timer event) ≡ expiry_of event
unfolding expired_timer expiry_of
expired_by_number event = refl
