-- What the answer promises holds of every file: accepted only if fit, and refused at the first bad line.
use Prim.Native.Nat.{ℕ, zero, suc, ◌+◌, ◌≤◌, ◌<◌}
use mathlib.Core.Path.{◌≡◌, refl, sym, ap, ◌∙◌}
use mathlib.Core.Bool.{Bool, true, false}
use mathlib.Core.List.{List, [], ◌∷◌, ◌++◌, map, append-nil}
use mathlib.Core.Logic.{◌⊎◌, inl, inr}
use native.Mathlib.Omega.{arith}
use borrow.Author.Tests.{ne_eqb}
use lib.ListN.{length, length-append, get_or-replicate}
use lib.Seq.{append_snoc}
use Rattle.octets.proofs.Choice.{never}
use Rattle.std.specs.Prelude.{Option, Some, None, Result, Ok, Err, is_some, is_err}
use Rattle.settings_line.specs.declared.Fault.{Fault}
use Rattle.settings_line.specs.declared.Fault.TheVariants.{Repeated, NoKey, NoClassmark, NoIdentity, NoJoining, NoInvitation}
use Rattle.settings_values.specs.declared.OwnIdentity.{OwnIdentity}
use Rattle.settings_values.specs.declared.Settings.{Settings}
use Rattle.settings_line.specs.declared.Seen.{Seen}
use Rattle.settings.specs.declared.Refusal.{Refusal}
use Rattle.settings.specs.Lines.{lines}
use Rattle.settings_line.specs.Line.{Setting, Key, Classmark, Identity, Joining, Invitation, Unreadable, nothing, own_identity, with_key, with_classmark, with_identity, with_joining, with_invitation, once, turn_of}
use Rattle.settings.specs.Settings.{meaning, needed, whole_of, refused_at, outcome_at, onward, end_of, read_from, settings_of}
use Rattle.settings_fit.specs.Written.{named, times, EachOnce, Fit}
use Rattle.settings_fit.specs.Promise.{name_of, names_of, Good, FirstBad, OneMissing, Promise}
use Rattle.settings_fit.proofs.Exact.{fit-read}
use Rattle.settings_fit.proofs.Names.{bit, flags, flag, next_of, turn-named, flags-next, more, one_more_lem}
use Rattle.settings_fit.proofs.Only.{Holds, HoldsAll, file-fit}

-- The settings of an accepted file hold what was seen before, and what each line sets.
record Agrees (seen : Seen) (s : Settings) : Type 0 where
  key : (n : ℕ) → seen.key ≡ Some n → s.key ≡ n
  classmark : (octets : List ℕ) → seen.classmark ≡ Some octets → s.classmark ≡ octets
  identity : (own : OwnIdentity) → seen.identity ≡ Some own → (s.identity ≡ own.octets) × (s.count ≡ own.count)
  joining : (n : ℕ) → seen.joining ≡ Some n → s.joining ≡ n
  invitation : (n : ℕ) → seen.invitation ≡ Some n → s.invitation ≡ n

abbrev Held : Seen → List Setting → Result Settings Refusal → Type 0
Held seen xs (Ok s) = Agrees seen s × HoldsAll s xs
Held seen xs (Err refusal) = Unit {0}

-- What holds where a name is missing and where it is set holds of what comes of it.
at_needed : {T : Type 0} (P : Result Settings Fault → Type 0) (o : Option T) (fault : Fault) (rest : T → Result Settings Fault)
    → (o ≡ None → P (Err fault)) → ((value : T) → o ≡ Some value → P (rest value)) → P (needed o fault rest)
at_needed P None fault rest f g = f refl
at_needed P (Some value) fault rest f g = g value refl

-- What holds where a name is repeated and where it is new holds of the walk from that line on.
at_once : (P : Result Settings Refusal → Type 0) (number : ℕ) (xs : List Setting) (already : Bool) (next : Seen)
    → (already ≡ true → P (refused_at number Repeated)) → (already ≡ false → P (read_from (suc number) next xs))
    → P (onward number (once already next) (λ later. read_from (suc number) later xs))
at_once P number xs true next f g = f refl
at_once P number xs false next f g = g refl

-- A name that is not seen has no value.
unseen : {T A : Type 0} (o : Option T) (value : T) → is_some o ≡ false → o ≡ Some value → A
unseen None value f e = absurd (cc)
unseen (Some other) value f e = never (sym f)

-- What the settings hold behind a line, they hold from that line on.
carry : (seen next : Seen) (x : Setting) (xs : List Setting) → ((s : Settings) → Agrees next s → Agrees seen s × Holds s x)
    → (r : Result Settings Refusal) → Held next xs r → Held seen (x ∷ xs) r
carry seen next x xs f (Ok s) h = let p = f s h.0 in (p.0, (p.1, h.1))
carry seen next x xs f (Err refusal) h = tt

held : (number : ℕ) (seen : Seen) (xs : List Setting) → Held seen xs (read_from number seen xs)
unfolding read_from turn_of whole_of
held number seen [] =
    at_needed P seen.key _ _ (λ _. tt)
    λ key a. at_needed P seen.classmark _ _ (λ _. tt)
    λ classmark b. at_needed P seen.identity _ _ (λ _. tt)
    λ own c. at_needed P seen.joining _ _ (λ _. tt)
    λ joining d. at_needed P seen.invitation _ _ (λ _. tt)
    λ invitation e. (
      record {
        key = λ n h. cc;
        classmark = λ octets h. cc;
        identity = λ other h. let same : own ≡ other = cc in (ap (λ (o : OwnIdentity). o.octets) same, ap (λ (o : OwnIdentity). o.count) same);
        joining = λ n h. cc;
        invitation = λ n h. cc;
      },
      tt,
    )
  where
    P : Result Settings Fault → Type 0
    P r = Held seen [] (outcome_at number r)
held number seen (Key n ∷ xs) =
    at_once (Held seen (Key n ∷ xs)) number xs (is_some seen.key) (with_key seen n) (λ _. tt) λ new.
    carry seen (with_key seen n) (Key n) xs (λ s p. (record { key = λ v h. unseen seen.key v new h; classmark = p.classmark; identity = p.identity; joining = p.joining; invitation = p.invitation }, p.key n refl))
    (read_from (suc number) (with_key seen n) xs) (held (suc number) (with_key seen n) xs)
held number seen (Classmark octets ∷ xs) =
    at_once (Held seen (Classmark octets ∷ xs)) number xs (is_some seen.classmark) (with_classmark seen octets) (λ _. tt) λ new.
    carry seen (with_classmark seen octets) (Classmark octets) xs (λ s p. (record { key = p.key; classmark = λ v h. unseen seen.classmark v new h; identity = p.identity; joining = p.joining; invitation = p.invitation }, p.classmark octets refl))
    (read_from (suc number) (with_classmark seen octets) xs) (held (suc number) (with_classmark seen octets) xs)
held number seen (Identity octets ∷ xs) =
    at_once (Held seen (Identity octets ∷ xs)) number xs (is_some seen.identity) (with_identity seen octets) (λ _. tt) λ new.
    carry seen (with_identity seen octets) (Identity octets) xs (λ s p. (record { key = p.key; classmark = p.classmark; identity = λ v h. unseen seen.identity v new h; joining = p.joining; invitation = p.invitation }, p.identity (own_identity octets) refl))
    (read_from (suc number) (with_identity seen octets) xs) (held (suc number) (with_identity seen octets) xs)
held number seen (Joining n ∷ xs) =
    at_once (Held seen (Joining n ∷ xs)) number xs (is_some seen.joining) (with_joining seen n) (λ _. tt) λ new.
    carry seen (with_joining seen n) (Joining n) xs (λ s p. (record { key = p.key; classmark = p.classmark; identity = p.identity; joining = λ v h. unseen seen.joining v new h; invitation = p.invitation }, p.joining n refl))
    (read_from (suc number) (with_joining seen n) xs) (held (suc number) (with_joining seen n) xs)
held number seen (Invitation n ∷ xs) =
    at_once (Held seen (Invitation n ∷ xs)) number xs (is_some seen.invitation) (with_invitation seen n) (λ _. tt) λ new.
    carry seen (with_invitation seen n) (Invitation n) xs (λ s p. (record { key = p.key; classmark = p.classmark; identity = p.identity; joining = p.joining; invitation = λ v h. unseen seen.invitation v new h }, p.invitation n refl))
    (read_from (suc number) (with_invitation seen n) xs) (held (suc number) (with_invitation seen n) xs)
held number seen (Unreadable fault ∷ xs) = tt

-- What is seen are the names of the lines before, all of which read.
record Marks (seen : Seen) (before : List ℕ) : Type 0 where
  names : (name : ℕ) → name < named → times name before ≡ bit (flag (flags seen) name)
  read : times named before ≡ 0

bit-small : (t : Bool) → bit t ≤ 1
bit-small true = omega arith
bit-small false = omega arith

good : {seen : Seen} {before : List ℕ} → Marks seen before → Good before
good {seen} {before} m = record { read = m.read; differ = λ name h. rw (m.names name h) (bit-small (flag (flags seen) name)) }

-- One name more, which was not seen.
marks_next : (seen : Seen) (before : List ℕ) (x : Setting) → name_of x < named → flag (flags seen) (name_of x) ≡ false → Marks seen before
    → Marks (next_of seen x) (before ++ name_of x ∷ [])
unfolding times
marks_next seen before x h f m = record { names = one; read = more named (name_of x) before ∙ unread }
  where
    one : (name : ℕ) → name < named → times name (before ++ name_of x ∷ []) ≡ bit (flag (flags (next_of seen x)) name)
    one name k =
        more name (name_of x) before
        ∙ ap (λ (n : ℕ). n + times name (name_of x ∷ [])) (m.names name k)
        ∙ sym (one_more_lem (flags seen) (name_of x) name h f)
        ∙ ap (λ (marks : List Bool). bit (flag marks name)) (sym (flags-next seen x h))

    unread : times named before + times named (name_of x ∷ []) ≡ 0
    unread = rw (m.read, ne_eqb named (name_of x) (λ e. omega arith))

-- An answer in the terms of the names: each once and accepted, or refused.
abbrev Outcome : List ℕ → Result Settings Refusal → Type 0
Outcome names (Ok s) = EachOnce names
Outcome names (Err refusal) = FirstBad names refusal.line ⊎ OneMissing names refusal.line

module _ (before : List ℕ) (seen : Seen) (m : Marks seen before) where
  -- A name is missing at the end.
  lacks : (name : ℕ) (fault : Fault) → name < named → flag (flags seen) name ≡ false → Outcome before (refused_at (suc (length before)) fault)
  lacks name fault h f = inr record { name = name; one = h; here = refl; good = good m; missing = m.names name h ∙ ap bit f }

  -- The next line is refused.
  stops : (name : ℕ) (behind : List ℕ) (fault : Fault) → (name ≡ named) ⊎ (times name before ≡ 1)
      → Outcome (before ++ name ∷ behind) (refused_at (suc (length before)) fault)
  stops name behind fault b = inl record { before = before; name = name; behind = behind; file = refl; here = refl; good = good m; bad = b }

  at_end : Outcome before (end_of (suc (length before)) seen)
  unfolding whole_of
  at_end =
      at_needed P seen.key NoKey _ (λ e. lacks 0 NoKey (omega arith) (ap is_some e))
      λ _ a. at_needed P seen.classmark NoClassmark _ (λ e. lacks 1 NoClassmark (omega arith) (ap is_some e))
      λ _ b. at_needed P seen.identity NoIdentity _ (λ e. lacks 2 NoIdentity (omega arith) (ap is_some e))
      λ _ c. at_needed P seen.joining NoJoining _ (λ e. lacks 3 NoJoining (omega arith) (ap is_some e))
      λ _ d. at_needed P seen.invitation NoInvitation _ (λ e. lacks 4 NoInvitation (omega arith) (ap is_some e))
      λ _ e. once-each (ap is_some a) (ap is_some b) (ap is_some c) (ap is_some d) (ap is_some e)
    where
      P : Result Settings Fault → Type 0
      P r = Outcome before (outcome_at (suc (length before)) r)

      once-each : is_some seen.key ≡ true → is_some seen.classmark ≡ true → is_some seen.identity ≡ true → is_some seen.joining ≡ true
          → is_some seen.invitation ≡ true → EachOnce before
      once-each a b c d e zero h = m.names 0 h ∙ ap bit a
      once-each a b c d e (suc zero) h = m.names 1 h ∙ ap bit b
      once-each a b c d e (suc (suc zero)) h = m.names 2 h ∙ ap bit c
      once-each a b c d e (suc (suc (suc zero))) h = m.names 3 h ∙ ap bit d
      once-each a b c d e (suc (suc (suc (suc zero)))) h = m.names 4 h ∙ ap bit e
      once-each a b c d e (suc (suc (suc (suc (suc name))))) h = let z : ⊥ = omega arith in elim z [ ]

-- The walk behind one line more is the walk from that line on.
go_on : (name : ℕ) (before names : List ℕ) (next : Seen) (xs : List Setting)
    → Outcome ((before ++ name ∷ []) ++ names) (read_from (suc (length (before ++ name ∷ []))) next xs)
    → Outcome (before ++ name ∷ names) (read_from (suc (suc (length before))) next xs)
go_on name before names next xs o =
    let l : length (before ++ name ∷ []) ≡ suc (length before) = length-append before (name ∷ []) ∙ omega arith in
    rw (append_snoc before name names, l) at o

abbrev Walks : List Setting → List ℕ → Seen → Type 0
Walks xs before seen = Outcome (before ++ map name_of xs) (read_from (suc (length before)) seen xs)

-- A line that sets something repeats its name or is taken, and the walk goes on.
walk_named : (x : Setting) (xs : List Setting) → name_of x < named → ((before : List ℕ) (seen : Seen) → Marks seen before → Walks xs before seen)
    → (before : List ℕ) (seen : Seen) → Marks seen before → Walks (x ∷ xs) before seen
unfolding read_from
walk_named x xs h rest before seen m =
    rw (turn-named seen x h) (
    at_once (Outcome (before ++ name_of x ∷ map name_of xs)) _ xs (flag (flags seen) (name_of x)) _
    (λ t. stops before seen m (name_of x) _ Repeated (inr (m.names (name_of x) h ∙ ap bit t)))
    λ f. go_on (name_of x) before (map name_of xs) (next_of seen x) xs (rest (before ++ name_of x ∷ []) (next_of seen x) (marks_next seen before x h f m)))

walk : (xs : List Setting) (before : List ℕ) (seen : Seen) → Marks seen before → Walks xs before seen
unfolding read_from turn_of
walk [] before seen m = rw (append-nil before) (at_end before seen m)
walk (Key n ∷ xs) before seen m = walk_named (Key n) xs (omega arith) (walk xs) before seen m
walk (Classmark octets ∷ xs) before seen m = walk_named (Classmark octets) xs (omega arith) (walk xs) before seen m
walk (Identity octets ∷ xs) before seen m = walk_named (Identity octets) xs (omega arith) (walk xs) before seen m
walk (Joining n ∷ xs) before seen m = walk_named (Joining n) xs (omega arith) (walk xs) before seen m
walk (Invitation n ∷ xs) before seen m = walk_named (Invitation n) xs (omega arith) (walk xs) before seen m
walk (Unreadable fault ∷ xs) before seen m = stops before seen m named _ fault (inl refl)

-- Every file: accepted only if it is fit for the settings read; else refused at its first bad line.
pub promise : (file : List ℕ) → Promise file (settings_of file)
unfolding settings_of times
promise file =
    go (settings_of file)
    (walk (map meaning (lines file)) [] nothing (record { names = λ name h. sym (ap bit (get_or-replicate named name false false h)); read = refl }))
    (held 1 nothing (map meaning (lines file)))
  where
    go : (r : Result Settings Refusal) → Outcome (names_of file) r → Held nothing (map meaning (lines file)) r → Promise file r
    go (Ok s) once h = file-fit s file once h.1
    go (Err refusal) bad h = bad

-- Settings are given of fit files alone, those that they write; every other file is refused.
pub only_fit : (file : List ℕ) (s : Settings) → settings_of file ≡ Ok s → Fit s file
only_fit file s e = rw e at (promise file)

pub unfit_refused : (file : List ℕ) → ((s : Settings) → Fit s file → ⊥) → is_err (settings_of file) ≡ true
unfit_refused file unfit = go (settings_of file) (promise file)
  where
    go : (r : Result Settings Refusal) → Promise file r → is_err r ≡ true
    go (Ok s) fit = absurd (unfit s fit)
    go (Err refusal) bad = refl

-- A file writes one choice of settings at most.
pub one-fit : (file : List ℕ) (s t : Settings) → Fit s file → Fit t file → s ≡ t
one-fit file s t p q = let e : Ok s ≡ settings_of file = sym (fit-read s file p) in let f : settings_of file ≡ Ok t = fit-read t file q in cc
