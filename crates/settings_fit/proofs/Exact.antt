-- A fit file is read exactly: whatever the order of its lines and the case of its hex digits, the answer is the settings it writes.
use Prim.Native.Nat.{ℕ, suc, ◌+◌, ◌*◌, ◌/◌, ◌%◌, ◌≤◌, ◌<◌}
use mathlib.Core.Path.{◌≡◌, refl, sym, ap, ◌∙◌}
use mathlib.Core.Bool.{Bool, true, false, cond, not, ◌&&◌}
use mathlib.Core.List.{List, [], ◌∷◌, ◌++◌, map}
use mathlib.Core.Logic.{inl, inr}
use native.Mathlib.Omega.{arith}
use borrow.Author.Tests.{lt-ltb, le-leb, eq-eqb, ne_eqb, ltb-true, ltb-false, eqb-true}
use lib.Dec.{ltb, eqb}
use lib.ListN.{length, take, replicate, get_or-replicate}
use Rattle.octets.proofs.Choice.{never}
use Rattle.std.specs.Prelude.{Some, None, Ok}
use Rattle.timer.specs.Timers.{least_joining, greatest_joining, least_invitation, greatest_invitation}
use Rattle.settings_values.specs.declared.Settings.{Settings}
use Rattle.settings_line.specs.declared.Seen.{Seen}
use Rattle.settings.specs.Lines.{Ended, longer, lines}
use Rattle.settings_values.specs.Digits.{digit, digits, octets_of}
use Rattle.settings_line.specs.Line.{Setting, Key, Classmark, Identity, Joining, Invitation, key_of, classmark_of, identity_of, joining_of, invitation_of, starts, setting_of, turn_of}
use Rattle.settings.specs.Settings.{meaning, read_from, whole_of, settings_of}
use Rattle.settings_values.specs.Values.{InRange}
use Rattle.settings_fit.specs.Written.{Digit, HexText, none, octet, decimal_text, Writes, key-line, classmark-line, identity-line, joining-line, invitation-line, WritesAll, no_line, and-line, named, times, Fit}
use Rattle.settings_values.proofs.Digits.{digit-upper, digit-lower}
use Rattle.settings_fit.proofs.Names.{bit, Once, once_new, once-next}
use Rattle.settings_fit.proofs.Numbers.{milliseconds-back}
use Rattle.settings_fit.proofs.Texts.{digit_low}

-- Digits, as they are read again.
digit-back : (n b : ℕ) → n < 16 → Digit n b → digit b ≡ n
digit-back n b h (inl e) = rw e (go (ltb n 10) refl)
  where
    go : (t : Bool) → ltb n 10 ≡ t → digit (cond t (0x30 + n) (0x37 + n)) ≡ n
    go true q = digit_low n (ltb-true n 10 q)
    go false q = let k : 10 ≤ n = ltb-false n 10 q in sym (digit-upper (0x37 + n) (omega arith) (omega arith)) ∙ omega arith
digit-back n b h (inr e) = rw e (go (ltb n 10) refl)
  where
    go : (t : Bool) → ltb n 10 ≡ t → digit (cond t (0x30 + n) (0x57 + n)) ≡ n
    go true q = digit_low n (ltb-true n 10 q)
    go false q = let k : 10 ≤ n = ltb-false n 10 q in sym (digit-lower (0x57 + n) (omega arith) (omega arith)) ∙ omega arith

-- Hex text, as it is read again.
record Back (octets text : List ℕ) : Type 0 where
  digits-all : digits 16 text ≡ true
  long : length text ≡ 2 * length octets
  same : octets_of text ≡ octets

hex_back : {octets text : List ℕ} → HexText octets text → Back octets text
unfolding digits octets_of
hex_back none = record { digits-all = refl; long = refl; same = refl }
hex_back (octet {n} {a} {b} {octets} {text} h p q rest) =
    let high : digit a ≡ n / 16 = digit-back (n / 16) a (omega arith) p in
    let low : digit b ≡ n % 16 = digit-back (n % 16) b (omega arith) q in
    let r : Back octets text = hex_back rest in
    let k : n / 16 < 16 = omega arith in
    let m : n % 16 < 16 = omega arith in
    let e : 16 * (n / 16) + n % 16 ≡ n = omega arith in
    record {
      digits-all = rw (high, low, lt-ltb (n / 16) 16 k, lt-ltb (n % 16) 16 m) r.digits-all;
      long = let l : length text ≡ 2 * length octets = r.long in omega arith;
      same = rw (high, low, e, r.same);
    }

-- Each value, as it is read again.
key_back : (n : ℕ) → n ≤ 7 → key_of ((0x30 + n) ∷ []) ≡ Key n
unfolding key_of digits
key_back n h = rw (digit_low n (omega arith), lt-ltb n 8 (omega arith))

classmark-back : {octets text : List ℕ} → HexText octets text → length octets ≡ 3 → classmark_of text ≡ Classmark octets
unfolding classmark_of
classmark-back {octets} {text} w h =
    let r : Back octets text = hex_back w in
    let l : length text ≡ 2 * length octets = r.long in
    let k : length text ≡ 6 = omega arith in
    rw (eq-eqb (length text) 6 k, r.digits-all, r.same)

identity-back : {octets text : List ℕ} → HexText octets text → 1 ≤ length octets → length octets ≤ 8 → identity_of text ≡ Identity octets
unfolding identity_of
identity-back {octets} {text} w h k =
    let r : Back octets text = hex_back w in
    let l : length text ≡ 2 * length octets = r.long in
    rw (le-leb 2 (length text) (omega arith), le-leb (length text) 16 (omega arith), eq-eqb (length text % 2) 0 (omega arith), r.digits-all, r.same)

joining-back : (n : ℕ) → least_joining ≤ n → n ≤ greatest_joining → joining_of (decimal_text n) ≡ Joining n
unfolding joining_of
joining-back n least greatest =
    let b = milliseconds-back least_joining greatest_joining n (omega arith) (omega arith) least greatest in rw (b.0, b.1)

invitation-back : (n : ℕ) → least_invitation ≤ n → n ≤ greatest_invitation → invitation_of (decimal_text n) ≡ Invitation n
unfolding invitation_of
invitation-back n least greatest =
    let b = milliseconds-back least_invitation greatest_invitation n (omega arith) (omega arith) least greatest in rw (b.0, b.1)

-- A text with no LF in it, ended by one, is a line.
clean : List ℕ → Bool
clean [] = true
clean (b ∷ text) = not (eqb b 10) && clean text

clean_line : (line file : List ℕ) → clean line ≡ true → lines (line ++ 10 ∷ file) ≡ Ended line ∷ lines file
unfolding lines clean
clean_line [] file h = refl
clean_line (b ∷ line) file h = go (eqb b 10) h (clean_line line file)
  where
    go : (t : Bool) → (not t && clean line) ≡ true → (clean line ≡ true → lines (line ++ 10 ∷ file) ≡ Ended line ∷ lines file)
        → cond t (Ended [] ∷ lines (line ++ 10 ∷ file)) (longer b (lines (line ++ 10 ∷ file))) ≡ Ended (b ∷ line) ∷ lines file
    go true h ih = never h
    go false h ih = ap (longer b) (ih h)

-- Digits hold no LF.
digits_clean : (base : ℕ) (text : List ℕ) → base ≤ 16 → digits base text ≡ true → clean text ≡ true
unfolding digits clean digit
digits_clean base [] h e = refl
digits_clean base (b ∷ text) h e = go (eqb b 10) refl (ltb (digit b) base) refl e (digits_clean base text h)
  where
    go : (t : Bool) → eqb b 10 ≡ t → (s : Bool) → ltb (digit b) base ≡ s → (s && digits base text) ≡ true
        → (digits base text ≡ true → clean text ≡ true) → (not t && clean text) ≡ true
    go t p false q e ih = never e
    go false p true q e ih = ih e
    go true p true q e ih =
        let k : b ≡ 10 = eqb-true b 10 p in
        let l : digit b < base = ltb-true (digit b) base q in
        let m : digit b ≡ 16 = rw k in
        let z : ⊥ = omega arith in elim z [ ]

-- What a line of a fit file means, by the number of its name.
data Says (s : Settings) : ℕ → Setting → Type 0 where
  says_key : Says s 0 (Key s.key)
  says_classmark : Says s 1 (Classmark s.classmark)
  says_identity : Says s 2 (Identity (take s.count s.identity))
  says_joining : Says s 3 (Joining s.joining)
  says_invitation : Says s 4 (Invitation s.invitation)

data SaysAll (s : Settings) : List ℕ → List Setting → Type 0 where
  no_more : SaysAll s [] []
  and_says : {name : ℕ} {names : List ℕ} {x : Setting} {xs : List Setting} → Says s name x → SaysAll s names xs
      → SaysAll s (name ∷ names) (x ∷ xs)

module _ (s : Settings) (range : InRange s) where
  line_means : {name : ℕ} {line : List ℕ} → Writes s name line → Says s name (setting_of line)
  unfolding setting_of starts
  line_means key-line = rw (key_back s.key range.key) says_key
  line_means (classmark-line w) = rw (classmark-back w range.classmark) says_classmark
  line_means (identity-line w) =
      let h : length (take s.count s.identity) ≡ s.count = range.counted in
      let j : 1 ≤ s.count = range.some in
      let k : s.count ≤ 8 = range.most in
      rw (identity-back w (omega arith) (omega arith)) says_identity
  line_means joining-line = rw (joining-back s.joining range.least range.greatest) says_joining
  line_means invitation-line = rw (invitation-back s.invitation range.invitation-least range.invitation-greatest) says_invitation

  line_clean : {name : ℕ} {line : List ℕ} → Writes s name line → clean line ≡ true
  unfolding clean
  line_clean key-line = rw (ne_eqb (0x30 + s.key) 10 (λ e. omega arith))
  line_clean (classmark-line {text} w) = digits_clean 16 text (omega arith) (hex_back w).digits-all
  line_clean (identity-line {text} w) = digits_clean 16 text (omega arith) (hex_back w).digits-all
  line_clean joining-line =
      digits_clean 10 (decimal_text s.joining) (omega arith)
      (milliseconds-back least_joining greatest_joining s.joining (omega arith) (omega arith) range.least range.greatest).2
  line_clean invitation-line =
      digits_clean 10 (decimal_text s.invitation) (omega arith)
      (milliseconds-back least_invitation greatest_invitation s.invitation (omega arith) (omega arith) range.invitation-least range.invitation-greatest).2

  file_means : {names file : List ℕ} → WritesAll s names file → SaysAll s names (map meaning (lines file))
  unfolding lines
  file_means no_line = no_more
  file_means (and-line {line = line} {file = file} w rest) =
      rw (clean_line line file (line_clean w)) (and_says (line_means w) (file_means rest))

  -- What is seen while the lines of a fit file are read: the settings of the names seen.
  shown : Bool → Bool → Bool → Bool → Bool → Seen
  shown a b c d e = record {
    key = cond a (Some s.key) None;
    classmark = cond b (Some s.classmark) None;
    identity = cond c (Some (record { octets = s.identity; count = s.count })) None;
    joining = cond d (Some s.joining) None;
    invitation = cond e (Some s.invitation) None;
  }

once-true : (t : Bool) → bit t + 0 ≡ 1 → t ≡ true
once-true true e = refl
once-true false e = let z : ⊥ = omega arith in elim z [ ]

module _ (s : Settings) (range : InRange s) where
  reads : (number : ℕ) (a b c d e : Bool) {names : List ℕ} {xs : List Setting} → SaysAll s names xs → Once (a ∷ b ∷ c ∷ d ∷ e ∷ []) names
      → read_from number (shown s range a b c d e) xs ≡ Ok s
  unfolding read_from turn_of whole_of times shown
  reads number a b c d e no_more o =
      rw (
        once-true a (o 0 (omega arith)),
        once-true b (o 1 (omega arith)),
        once-true c (o 2 (omega arith)),
        once-true d (o 3 (omega arith)),
        once-true e (o 4 (omega arith)),
      )
  reads number a b c d e (and_says {names = names} says_key rest) o =
      let new : a ≡ false = once_new (a ∷ b ∷ c ∷ d ∷ e ∷ []) 0 names (omega arith) (omega arith) o in
      rw new (reads (suc number) true b c d e rest (once-next (a ∷ b ∷ c ∷ d ∷ e ∷ []) 0 names (omega arith) (omega arith) o))
  reads number a b c d e (and_says {names = names} says_classmark rest) o =
      let new : b ≡ false = once_new (a ∷ b ∷ c ∷ d ∷ e ∷ []) 1 names (omega arith) (omega arith) o in
      rw new (reads (suc number) a true c d e rest (once-next (a ∷ b ∷ c ∷ d ∷ e ∷ []) 1 names (omega arith) (omega arith) o))
  reads number a b c d e (and_says {names = names} says_identity rest) o =
      let new : c ≡ false = once_new (a ∷ b ∷ c ∷ d ∷ e ∷ []) 2 names (omega arith) (omega arith) o in
      rw (new, ← range.zeros, range.counted)
      (reads (suc number) a b true d e rest (once-next (a ∷ b ∷ c ∷ d ∷ e ∷ []) 2 names (omega arith) (omega arith) o))
  reads number a b c d e (and_says {names = names} says_joining rest) o =
      let new : d ≡ false = once_new (a ∷ b ∷ c ∷ d ∷ e ∷ []) 3 names (omega arith) (omega arith) o in
      rw new (reads (suc number) a b c true e rest (once-next (a ∷ b ∷ c ∷ d ∷ e ∷ []) 3 names (omega arith) (omega arith) o))
  reads number a b c d e (and_says {names = names} says_invitation rest) o =
      let new : e ≡ false = once_new (a ∷ b ∷ c ∷ d ∷ e ∷ []) 4 names (omega arith) (omega arith) o in
      rw new (reads (suc number) a b c d true rest (once-next (a ∷ b ∷ c ∷ d ∷ e ∷ []) 4 names (omega arith) (omega arith) o))

-- A fit file is read, and exactly.
pub fit-read : (s : Settings) (file : List ℕ) → Fit s file → settings_of file ≡ Ok s
unfolding settings_of shown
fit-read s file f = reads s f.range 1 false false false false false (file_means s f.range f.written) unmarked
  where
    unmarked : Once (replicate named false) f.names
    unmarked name h = rw (get_or-replicate named name false false h) (let e : times name f.names ≡ 1 = f.each-once name h in omega arith)
