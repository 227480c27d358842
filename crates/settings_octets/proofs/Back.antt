-- What a step and a judgement are told of settings that were written as octets is what they hold.
use Prim.Native.Nat.{ℕ, ◌+◌, ◌-◌, ◌*◌, ◌/◌, ◌%◌, ◌<◌, min}
use mathlib.Core.Path.{◌≡◌, refl, sym, ap, ◌∙◌}
use mathlib.Core.List.{List, ◌++◌}
use native.Mathlib.Omega.{arith}
use lib.ListN.{length, take, get_or, replicate, length-append, length-replicate}
use lib.Seq.{take-append-le}
use borrow.Author.Tests.{le-ltb}
use Rattle.settings_values.specs.declared.Settings.{Settings}
use Rattle.settings_values.specs.Values.{padded, InRange}
use Rattle.octets.proofs.Listed.{listed, all_listed}
use Rattle.octets.specs.Little.{little}
use Rattle.settings_octets.specs.Octets.{identity_of, length_octet, octets_of, own_of, run_of, timer_at}

-- Key number and classmark.
pub own_back : (x : Settings)
    → own_of (octets_of x) ≡ record { key = x.key; classmark = record { first = get_or x.classmark 0 0; second = get_or x.classmark 1 0; third = get_or x.classmark 2 0 } }
unfolding own_of octets_of
own_back x = refl

-- Eight octets.
eight : (x : Settings) → InRange x → length x.identity ≡ 8
eight x r =
    let n : ℕ = x.count in
    let t : List ℕ = take n x.identity in
    let p : length (padded t) ≡ length t + (8 - length t) = length-append t (replicate (8 - length t) 0) ∙ ap (λ (k : ℕ). length t + k) (length-replicate (8 - length t) 0) in
    let q : length x.identity ≡ length (padded t) = ap length r.zeros in
    omega (arith, p, q, r.counted, r.most)

-- The identity of settings in range, which those of a file that is taken are.
pub identity-back : (x : Settings) → InRange x → identity_of (octets_of x) ≡ take x.count x.identity
unfolding octets_of length_octet run_of
identity-back x r =
    let n : min x.count 255 ≡ x.count = omega (arith, r.most) in
    rw (n, le-ltb 8 x.count r.most) (
    take-append-le x.count (listed 8 0 x.identity) (little x.joining ++ little x.invitation) r.most
    ∙ ap (take x.count) (sym (all_listed 8 x.identity (eight x r))))

-- A number below 2 to the 32nd is its four octets.
four : (n : ℕ) → n < 4294967296 → n % 256 + 256 * (n / 256 % 256) + 65536 * (n / 65536 % 256) + 16777216 * (n / 16777216 % 256) ≡ n
four n h =
    let a : n ≡ n % 256 + 256 * (n / 256) = omega arith in
    let b : n / 256 ≡ n / 256 % 256 + 256 * (n / 65536) = omega arith in
    let c : n / 65536 ≡ n / 65536 % 256 + 256 * (n / 16777216) = omega arith in
    let d : n / 16777216 % 256 ≡ n / 16777216 = omega arith in
    omega arith

-- The timers of settings.
pub joining-back : (x : Settings) → x.joining < 4294967296 → timer_at (octets_of x) 13 ≡ x.joining
unfolding octets_of timer_at
joining-back x h = four x.joining h

pub invitation-back : (x : Settings) → x.invitation < 4294967296 → timer_at (octets_of x) 17 ≡ x.invitation
unfolding octets_of timer_at
invitation-back x h = four x.invitation h
