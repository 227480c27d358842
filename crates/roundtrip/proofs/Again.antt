-- What the reader accepts, the writer writes again, and that is read as the same message; what the tables draw, read and written again, is the same octets.
use Prim.Native.Nat.{ℕ, ◌+◌, ◌/◌, ◌%◌, ◌≤◌, ◌<◌}
use mathlib.Core.Path.{◌≡◌, refl, sym, ap, subst, ◌∙◌}
use mathlib.Core.List.{List}
use mathlib.Core.Bool.{Bool, true}
use native.Mathlib.Omega.{arith}
use lib.ListN.{length, get_or}
use borrow.Author.Tests.{le-leb, lt-ltb}
use Rattle.codes.specs.declared.protocol.Protocol.{Protocol}
use Rattle.codes.specs.declared.protocol.Protocol.TheVariants.{Broadcast, Group}
use Rattle.octets.specs.declared.Run.{Run}
use Rattle.std.specs.Prelude.{Option, Some, None, Result, Ok, Err}
use Rattle.element.specs.declared.Miscount.{Miscount}
use Rattle.message.specs.declared.Reading.{Reading}
use Rattle.message.specs.declared.Unread.{Unread}
use Rattle.element.specs.Elements.{element_from}
use Rattle.element.specs.Counted.{counted_at}
use Rattle.std.specs.Result.{result_ok}
use Rattle.element.proofs.Elements.{within_says, Told, seek_told}
use Rattle.element.proofs.Counting.{Lies, counted-told, Told as Counts}
use Rattle.message.specs.declared.Message.{Message}
use Rattle.message.specs.declared.Message.TheVariants.{Status}
use Rattle.message.specs.Content.{Content, content_of}
use Rattle.message.specs.Tables.{written, fits}
use Rattle.message.specs.Reading.{octet, behind, four_octets, identity_behind, identity_found, half_found, half_at, read_message}
use Rattle.message.proofs.Each.{RejectLies, Each, of_read}
use Rattle.writing.specs.Writing.{writable, octets_written}
use Rattle.limits.specs.Limits.{run_fits, reject_fits, half_fits, half_count}
use Rattle.writing.specs.Bodies.{identity_fits, body_fits}
use Rattle.limits.proofs.Tests.{run-good, status-total}
use Rattle.writing.proofs.Fitting.{fits-same}
use Rattle.roundtrip.specs.Back.{Says, GivesBack, WritesAgain}
use Rattle.roundtrip.proofs.Drawn.{fitting}
use Rattle.roundtrip.proofs.RoundTrip.{table-back, writable-fits}

module _ (s : List ℕ) where
  -- What was read passes the writer's tests.
  abbrev Passes : Protocol → Message → Type 0
  Passes protocol m = body_fits protocol s m ≡ true

  -- A counted run passes the test of a run.
  run-passes : (at most : ℕ) (r : Run) → Lies s at 1 most r → run_fits s r 1 most ≡ true
  run-passes at most r l =
      let w : (1 ≤ r.count) × (r.count ≤ most) = within_says r.count 1 most l.within in sym (run-good s r 1 most w.0 w.1 l.fits)

  ok-passes : (at : ℕ) (c : Result Run Miscount) → Counts s at 1 8 c → identity_fits s (result_ok c) ≡ true
  ok-passes at (Ok r) t = run-passes at 8 r t
  ok-passes at (Err miscount) t = refl

  identity-passes : (found : Option (ℕ × ℕ)) → identity_fits s (identity_found s found) ≡ true
  unfolding identity_behind
  identity-passes None = refl
  identity-passes (Some (place, identifier)) = ok-passes (place + 1) (counted_at s (place + 1) 1 8) (counted-told s (place + 1) 1 8)

  -- A half octet that was found is below 16.
  half_passes : (found : Option (ℕ × ℕ)) → half_fits (half_found found) ≡ true
  half_passes None = refl
  half_passes (Some (place, identifier)) = lt-ltb (identifier % 16) 16 (omega arith)

  -- Call state and state attributes are two octets where both are found.
  halves-few : (end : ℕ) (f g : Option (ℕ × ℕ)) → Told s end 0xA0 0xAF f → Told s end 0xB0 0xBF g → end ≤ length s
      → end + half_count (half_found f) + half_count (half_found g) ≤ length s
  halves-few end None None t u h = omega arith
  halves-few end (Some (p, x)) None t u h = let a : end ≤ p = t.from in let b : p < length s = t.below in omega arith
  halves-few end None (Some (q, y)) t u h = let a : end ≤ q = u.from in let b : q < length s = u.below in omega arith
  halves-few end (Some (p, x)) (Some (q, y)) t u h = two (within_says x 0xA0 0xAF t.meant) (within_says y 0xB0 0xBF u.meant)
    where
      two : (0xA0 ≤ x) × (x ≤ 0xAF) → (0xB0 ≤ y) × (y ≤ 0xBF) → end + 1 + 1 ≤ length s
      two v w =
          let a : end ≤ p = t.from in
          let b : p < length s = t.below in
          let c : end ≤ q = u.from in
          let d : q < length s = u.below in
          let apart : p ≡ q → ⊥ = λ e.
          let same : x ≡ y = t.octet ∙ ap (λ (i : ℕ). get_or s i 0) e ∙ sym u.octet in
          let l : x ≤ 0xAF = v.1 in
          let m : 0xB0 ≤ y = w.0 in
          omega arith in
          omega (arith, apart)

  status-passes : (protocol : Protocol) → length s ≤ 251 → (r : Run) → Lies s 2 1 247 r → Passes protocol (Status r (half_at s (behind r) 0xA0) (half_at s (behind r) 0xB0))
  unfolding half_at
  status-passes protocol short r l =
      let start : r.start ≡ 3 = l.start in
      let f : Option (ℕ × ℕ) = element_from s (behind r) 0xA0 0xAF in
      let g : Option (ℕ × ℕ) = element_from s (behind r) 0xB0 0xBF in
      let few : behind r + half_count (half_found f) + half_count (half_found g) ≤ length s =
      halves-few (behind r) f g (seek_told s (behind r) 0xA0 0xAF) (seek_told s (behind r) 0xB0 0xBF) l.fits in
      let total : 3 + r.count + half_count (half_found f) + half_count (half_found g) ≤ 251 = omega arith in
      sym (status-total s r (half_found f) (half_found g) _ _ (run-passes 2 247 r l) (half_passes f) (half_passes g) refl refl) ∙ le-leb _ _ total

  -- The cause of a TERMINATION REJECT passes its test.
  reject_passes : (protocol : Protocol) (r : Run) → RejectLies protocol s r → reject_fits protocol s r ≡ true
  unfolding reject_fits
  reject_passes Broadcast r l = run-passes 2 247 r l
  reject_passes Group r l = rw l.0 (sym (run-good s four_octets 4 4 (omega arith) (omega arith) l.1))

  each-passes : (protocol : Protocol) → length s ≤ 251 → Each protocol s (Passes protocol)
  each-passes protocol short = record {
    connect = lt-ltb (octet 7 s % 2) 2 (omega arith);
    get_status = identity-passes (element_from s 2 0x17 0x17);
    immediate_setup = λ r l. simp (lt-ltb (octet 3 s / 16 % 8) 8 (omega arith)) (run-passes 7 8 r l);
    set_parameter = lt-ltb (octet 3 s % 16) 16 (omega arith);
    setup = refl;
    status = status-passes protocol short;
    termination = run-passes 2 247;
    termination_reject = reject_passes protocol;
    termination_request = refl;
  }

  -- What was read can be written again: its runs lie within the octets, and it fits its table; a transaction value of 7 alone is not written.
  pub read_writes : (protocol : Protocol) (read : Reading) → read_message protocol s ≡ Ok read → read.value ≤ 6
      → writable protocol s read.flag read.value read.message ≡ true
  read_writes protocol read e six =
      sym (fits-same s read.flag read.value six protocol read.message) ∙ of_read protocol s (Passes protocol) (each-passes protocol) read e

-- A message that was read, written again, is read as the same message.
pub read_again : (protocol : Protocol) (s : List ℕ) (read : Reading) → read_message protocol s ≡ Ok read → read.value ≤ 6
    → GivesBack protocol (written protocol read.flag read.value (content_of s read.message)) read.flag read.value (content_of s read.message)
read_again protocol s read e six =
    table-back protocol read.flag read.value (content_of s read.message)
    (writable-fits protocol s read.flag read.value read.message (read_writes s protocol read e six))

-- Octets that the tables draw, read and written again, are the same octets.
pub same-octets : (protocol : Protocol) (f : Bool) (v : ℕ) (c : Content) → fits protocol f v c ≡ true → WritesAgain protocol (written protocol f v c) (read_message protocol (written protocol f v c))
same-octets protocol f v c e = go (read_message protocol (written protocol f v c)) refl (table-back protocol f v c e)
  where
    go : (r : Result Reading Unread) → read_message protocol (written protocol f v c) ≡ r → Says (written protocol f v c) f v c r → WritesAgain protocol (written protocol f v c) r
    go (Ok read) q (flag, value, content) =
        let six : read.value ≤ 6 = subst (λ (n : ℕ). n ≤ 6) (sym value) (fitting protocol f v c e).six in
        let same : octets_written protocol (written protocol f v c) read.flag read.value read.message ≡ written protocol f v c =
        ap (λ (b : Bool). written protocol b read.value (content_of (written protocol f v c) read.message)) flag
        ∙ ap (λ (n : ℕ). written protocol f n (content_of (written protocol f v c) read.message)) value
        ∙ ap (λ (x : Content). written protocol f v x) content in
        (read_writes (written protocol f v c) protocol read q six, same)
    go (Err unread) q s = s
