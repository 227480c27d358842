-- Only a fit file is accepted: a line that sets something writes it, in the form that document 01 gives.
use Prim.Native.Nat.{ℕ, zero, suc, ◌+◌, ◌/◌, ◌%◌, ◌≤◌, ◌<◌}
use mathlib.Core.Path.{◌≡◌, refl, sym, ap, subst, ◌∙◌}
use mathlib.Core.Bool.{Bool, true, false, cond, ◌&&◌}
use mathlib.Core.List.{List, [], ◌∷◌, ◌++◌, map}
use native.Mathlib.Omega.{arith}
use borrow.Author.Tests.{leb-true, ltb-true, eqb-true}
use lib.Dec.{leb, eqb}
use lib.ListN.{length, get_or, take, drop, take-append-drop}
use lib.Seq.{take-append_seam}
use Rattle.octets.proofs.Choice.{at_cond}
use Rattle.timer.specs.Timers.{least_joining, greatest_joining, least_invitation, greatest_invitation}
use Rattle.settings_values.specs.declared.Settings.{Settings}
use Rattle.settings.specs.Lines.{Line, Ended, Cut, longer, lines}
use Rattle.settings_values.specs.Digits.{digit, digits, octets_of, number_from}
use Rattle.settings_values.specs.Values.{is_joining, is_invitation, padded}
use Rattle.settings_line.specs.Line.{Setting, Key, Classmark, Identity, Joining, Invitation, Unreadable, cksn=, classmark=, identity=, conn_req_ms=, present_ms=, key_of, classmark_of, identity_of, joining_of, invitation_of, starts, setting_of}
use Rattle.settings.specs.Settings.{meaning}
use Rattle.settings_fit.specs.Written.{decimal_text, Writes, key-line, classmark-line, identity-line, joining-line, invitation-line, WritesAll, no_line, and-line, times, EachOnce, Fit}
use Rattle.settings_fit.specs.Promise.{name_of, names_of}
use Rattle.settings_line.proofs.Names.{starts-true}
use Rattle.settings_fit.proofs.Texts.{both, digit-low_is, hex_is}
use Rattle.settings_fit.proofs.Numbers.{milliseconds_are}
use Rattle.settings_values.proofs.Values.{octets-count}

-- The settings hold what a line sets.
abbrev pub Holds : Settings → Setting → Type 0
Holds s (Key n) = s.key ≡ n
Holds s (Classmark octets) = s.classmark ≡ octets
Holds s (Identity octets) = (s.identity ≡ padded octets) × (s.count ≡ length octets)
Holds s (Joining n) = s.joining ≡ n
Holds s (Invitation n) = s.invitation ≡ n
Holds s (Unreadable fault) = ⊥

-- The range of what stands under a name, by the name's number.
record IdentityRange (s : Settings) : Type 0 where
  some : 1 ≤ s.count
  most : s.count ≤ 8
  counted : length (take s.count s.identity) ≡ s.count
  zeros : s.identity ≡ padded (take s.count s.identity)

abbrev Ranged : Settings → ℕ → Type 0
Ranged s zero = s.key ≤ 7
Ranged s (suc zero) = length s.classmark ≡ 3
Ranged s (suc (suc zero)) = IdentityRange s
Ranged s (suc (suc (suc zero))) = (least_joining ≤ s.joining) × (s.joining ≤ greatest_joining)
Ranged s (suc (suc (suc (suc zero)))) = (least_invitation ≤ s.invitation) × (s.invitation ≤ greatest_invitation)
Ranged s (suc (suc (suc (suc (suc name))))) = Unit {0}

module _ (s : Settings) where
  -- A line that sets what the settings hold writes it.
  record Line-is (line : List ℕ) (name : ℕ) : Type 0 where
    writes : Writes s name line
    ranged : Ranged s name

  abbrev Is : List ℕ → Setting → Type 0
  Is line x = Holds s x → Line-is line (name_of x)

  key_is : (text : List ℕ) → Is (cksn= ++ text) (key_of text)
  unfolding key_of digits
  key_is text = at_cond (Is (cksn= ++ text)) _ _ _ (λ e. let p = both _ _ e in one text (eqb-true _ _ p.0) p.1) (λ _ h. elim h [ ])
    where
      one : (text : List ℕ) → length text ≡ 1 → digits 8 text ≡ true → s.key ≡ digit (get_or text 0 0) → Line-is (cksn= ++ text) 0
      one [] l e h = let z : ⊥ = omega arith in elim z [ ]
      one (b ∷ []) l e h =
          let d : digit b < 8 = ltb-true _ _ (both _ _ e).0 in
          let q : b ≡ 0x30 + s.key = digit-low_is b (omega arith) ∙ ap (0x30 +◌) (sym h) in
          record { writes = rw q key-line; ranged = omega arith }
      one (b ∷ c ∷ text) l e h = let z : ⊥ = omega arith in elim z [ ]

  classmark_is : (text : List ℕ) → Is (classmark= ++ text) (classmark_of text)
  unfolding classmark_of
  classmark_is text = at_cond (Is (classmark= ++ text)) _ _ _ six (λ _ h. elim h [ ])
    where
      six : (eqb (length text) 6 && digits 16 text) ≡ true → Is (classmark= ++ text) (Classmark (octets_of text))
      six e h =
          let p = both _ _ e in
          let l : length text ≡ 6 = eqb-true _ _ p.0 in
          record { writes = classmark-line {text = text} (rw h (hex_is text p.1 (omega arith))); ranged = rw h (octets-count 3 text l) }

  identity_is : (text : List ℕ) → Is (identity= ++ text) (identity_of text)
  unfolding identity_of
  identity_is text = at_cond (Is (identity= ++ text)) _ _ _ some (λ _ h. elim h [ ])
    where
      some : (leb 2 (length text) && leb (length text) 16 && eqb (length text % 2) 0 && digits 16 text) ≡ true
          → Is (identity= ++ text) (Identity (octets_of text))
      some e h =
          let p = both _ _ e in
          let q = both _ _ p.0 in
          let r = both _ _ q.0 in
          let a : 2 ≤ length text = leb-true _ _ r.0 in
          let b : length text ≤ 16 = leb-true _ _ r.1 in
          let c : length text % 2 ≡ 0 = eqb-true _ _ q.1 in
          let n : length (octets_of text) ≡ length text / 2 = octets-count (length text / 2) text (omega arith) in
          let k : s.count ≡ length (octets_of text) = h.1 in
          let t : take s.count s.identity ≡ octets_of text = rw (h.0, h.1) (take-append_seam (octets_of text) _) in
          record {
            writes = identity-line {text = text} (rw t (hex_is text p.1 c));
            ranged = record { some = omega arith; most = omega arith; counted = rw t (sym k); zeros = rw t h.0 };
          }

  joining_is : (text : List ℕ) → Is (conn_req_ms= ++ text) (joining_of text)
  unfolding joining_of
  joining_is text = at_cond (Is (conn_req_ms= ++ text)) _ _ _ timed (λ _ h. elim h [ ])
    where
      timed : is_joining text ≡ true → Is (conn_req_ms= ++ text) (Joining (number_from 0 text))
      timed e h =
          let m = milliseconds_are least_joining greatest_joining text (omega arith) e in
          let t : text ≡ decimal_text s.joining = rw h m.same in
          record { writes = rw t joining-line; ranged = rw h (m.low, m.high) }

  invitation_is : (text : List ℕ) → Is (present_ms= ++ text) (invitation_of text)
  unfolding invitation_of
  invitation_is text = at_cond (Is (present_ms= ++ text)) _ _ _ timed (λ _ h. elim h [ ])
    where
      timed : is_invitation text ≡ true → Is (present_ms= ++ text) (Invitation (number_from 0 text))
      timed e h =
          let m = milliseconds_are least_invitation greatest_invitation text (omega arith) e in
          let t : text ≡ decimal_text s.invitation = rw h m.same in
          record { writes = rw t invitation-line; ranged = rw h (m.low, m.high) }

  -- A line that starts with a name is the name, and what stands behind it.
  named : (name line : List ℕ) → starts name line ≡ true → line ≡ name ++ drop (length name) line
  named name line e =
      let t : take (length name) line ≡ name = starts-true name line e in
      sym (take-append-drop (length name) line) ∙ rw t

  line_is : (line : List ℕ) → Is line (setting_of line)
  unfolding setting_of
  line_is line =
      at_cond (Is line) _ _ _ (λ e. under cksn= key_of e (key_is _))
      λ _. at_cond (Is line) _ _ _ (λ e. under classmark= classmark_of e (classmark_is _))
      λ _. at_cond (Is line) _ _ _ (λ e. under identity= identity_of e (identity_is _))
      λ _. at_cond (Is line) _ _ _ (λ e. under conn_req_ms= joining_of e (joining_is _))
      λ _. at_cond (Is line) _ _ _ (λ e. under present_ms= invitation_of e (invitation_is _))
      λ _ h. elim h [ ]
    where
      under : (name : List ℕ) (f : List ℕ → Setting) → starts name line ≡ true
          → Is (name ++ drop (length name) line) (f (drop (length name) line)) → Is line (f (drop (length name) line))
      under name f e p h =
          let q : name ++ drop (length name) line ≡ line = sym (named name line e) in
          subst (λ (l : List ℕ). Line-is l (name_of (f (drop (length name) line)))) q (p h)

  abbrev pub HoldsAll : List Setting → Type 0
  HoldsAll [] = Unit {0}
  HoldsAll (x ∷ xs) = Holds s x × HoldsAll xs

  abbrev RangedAll : List ℕ → Type 0
  RangedAll [] = Unit {0}
  RangedAll (name ∷ names) = Ranged s name × RangedAll names

-- The octets of lines, put together again.
whole : List Line → List ℕ
whole [] = []
whole (Ended line ∷ rest) = line ++ 10 ∷ whole rest
whole (Cut line ∷ rest) = line ++ whole rest

whole-longer : (b : ℕ) (ls : List Line) → whole (longer b ls) ≡ b ∷ whole ls
unfolding whole
whole-longer b [] = refl
whole-longer b (Ended line ∷ rest) = refl
whole-longer b (Cut line ∷ rest) = refl

whole-file : (file : List ℕ) → whole (lines file) ≡ file
unfolding whole lines
whole-file [] = refl
whole-file (b ∷ file) = go (eqb b 10) refl (whole-file file)
  where
    go : (t : Bool) → eqb b 10 ≡ t → whole (lines file) ≡ file → whole (cond t (Ended [] ∷ lines file) (longer b (lines file))) ≡ b ∷ file
    go true p e = let q : 10 ≡ b = sym (eqb-true b 10 p) in rw (e, q)
    go false p e = whole-longer b (lines file) ∙ ap (b ∷◌) e

module _ (s : Settings) where
  lines_are : (ls : List Line) → HoldsAll s (map meaning ls)
      → WritesAll s (map name_of (map meaning ls)) (whole ls) × RangedAll s (map name_of (map meaning ls))
  unfolding whole
  lines_are [] h = (no_line, tt)
  lines_are (Ended line ∷ rest) h =
      let p = line_is s line h.0 in
      let q = lines_are rest h.1 in
      (and-line p.writes q.0, (p.ranged, q.1))
  lines_are (Cut line ∷ rest) h = elim h.0 [ ]

  -- A name that stands among others has its range.
  range_of : (name : ℕ) (names : List ℕ) → times name names ≡ 1 → RangedAll s names → Ranged s name
  unfolding times
  range_of name [] e r = let z : ⊥ = omega arith in elim z [ ]
  range_of name (m ∷ names) e r = go (eqb name m) refl e (λ k. range_of name names k r.1)
    where
      go : (t : Bool) → eqb name m ≡ t → cond t (suc (times name names)) (times name names) ≡ 1 → (times name names ≡ 1 → Ranged s name)
          → Ranged s name
      go true p e ih = let q : name ≡ m = eqb-true name m p in rw q r.0
      go false p e ih = ih e

  -- A file each of whose lines sets what the settings hold, each name once, is fit.
  pub file-fit : (file : List ℕ) → EachOnce (names_of file) → HoldsAll s (map meaning (lines file)) → Fit s file
  file-fit file once h =
      let p = lines_are (lines file) h in
      let a = range_of 0 (names_of file) (once 0 (omega arith)) p.1 in
      let b = range_of 1 (names_of file) (once 1 (omega arith)) p.1 in
      let c = range_of 2 (names_of file) (once 2 (omega arith)) p.1 in
      let d = range_of 3 (names_of file) (once 3 (omega arith)) p.1 in
      let e = range_of 4 (names_of file) (once 4 (omega arith)) p.1 in
      record {
        range = record {
          key = a;
          classmark = b;
          some = c.some;
          most = c.most;
          counted = c.counted;
          zeros = c.zeros;
          least = d.0;
          greatest = d.1;
          invitation-least = e.0;
          invitation-greatest = e.1;
        };
        names = names_of file;
        each-once = once;
        written = rw (whole-file file) at p.0;
      }
