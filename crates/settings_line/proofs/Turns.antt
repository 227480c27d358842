-- Laws of one line's turn, by what the line means.
use Prim.Native.Nat.{ℕ}
use mathlib.Core.Path.{◌≡◌, refl, sym, ◌∙◌}
use mathlib.Core.Bool.{Bool, true, false, cond}
use mathlib.Core.List.{List}
use lib.Dec.{eqb}
use lib.ListN.{length, take, drop}
use lib.Pointwise.{pointwise}
use Rattle.std.specs.Prelude.{Option, Some, None, Result, Ok, Err, is_some}
use Rattle.settings_values.specs.declared.OwnIdentity.{OwnIdentity}
use Rattle.settings_values.specs.Values.{key_read, classmark_read, identity_read, milliseconds_read, joining_read, invitation_read}
use Rattle.settings_line.specs.declared.Fault.{Fault}
use Rattle.settings_line.specs.declared.Fault.TheVariants.{UnknownName, BadKey, BadClassmark, BadIdentity, BadJoining, BadInvitation, Repeated}
use Rattle.settings_line.specs.declared.Seen.{Seen}
use Rattle.settings_line.specs.Line.{Setting, Unreadable, once, once_read, turn_of, starts, cksn=, classmark=, identity=, conn_req_ms=, present_ms=, key_of, classmark_of, identity_of, joining_of, invitation_of, setting_of}
use Rattle.settings_line.proofs.Names.{starts-pointwise}

-- What is seen where a name's value is set.
abbrev pub set_by : {T : Type 0} → (Option T → Seen) → Result (Option T) Fault → Result Seen Fault
set_by next (Ok value) = Ok (next value)
set_by next (Err fault) = Err fault

-- The turn of a value that a test lets through, and whose name stands once.
turn_value : {T : Type 0} (before : Option T) (test : Bool) (value : T) (fault : Fault) (seen : Seen) (sets : Setting) (next : Option T → Seen)
    → turn_of seen sets ≡ once (is_some before) (next (Some value)) → (r : Result (Option T) Fault)
    → r ≡ once_read before (cond test (Some value) None) fault → set_by next r ≡ turn_of seen (cond test sets (Unreadable fault))
unfolding turn_of
turn_value {T} before test value fault seen sets next p r e = rw e (go test)
  where
    new : (s : Bool) → set_by next (cond s (Err Repeated) (Ok (Some value))) ≡ once s (next (Some value))
    new true = refl
    new false = refl

    go : (t : Bool) → set_by next (once_read before (cond t (Some value) None) fault) ≡ turn_of seen (cond t sets (Unreadable fault))
    go true = new (is_some before) ∙ sym p
    go false = refl

-- The line starts with the name, or does not, as the kit's search for a prefix tells it.
abbrev pub Begins : List ℕ → List ℕ → Bool → Type 0
Begins line name t = pointwise eqb (take (length name) line) name ≡ t

begins : (line name : List ℕ) (t : Bool) → Begins line name t → starts name line ≡ t
begins line name t p = sym (starts-pointwise name line) ∙ p

-- The turn of a line, by what was read under its name.
module _ (line text : List ℕ) (seen : Seen) where
  pub line-key : Begins line cksn= true → text ≡ drop 5 line
      → (read : Option ℕ) → read ≡ key_read text → (r : Result (Option ℕ) Fault) → r ≡ once_read seen.key read BadKey
      → set_by (λ value. record seen { key = value }) r ≡ turn_of seen (setting_of line)
  unfolding setting_of turn_of key_of key_read
  line-key a q read w r e =
      rw (begins line cksn= true a, ← q)
      (turn_value seen.key _ _ BadKey seen _ (λ value. record seen { key = value }) refl r (rw w at e))

  pub line-classmark : Begins line cksn= false → Begins line classmark= true → text ≡ drop 10 line
      → (read : Option (List ℕ)) → read ≡ classmark_read text → (r : Result (Option (List ℕ)) Fault) → r ≡ once_read seen.classmark read BadClassmark
      → set_by (λ value. record seen { classmark = value }) r ≡ turn_of seen (setting_of line)
  unfolding setting_of turn_of classmark_of classmark_read
  line-classmark a b q read w r e =
      rw (begins line cksn= false a, begins line classmark= true b, ← q)
      (turn_value seen.classmark _ _ BadClassmark seen _ (λ value. record seen { classmark = value }) refl r (rw w at e))

  pub line-identity : Begins line cksn= false → Begins line classmark= false → Begins line identity= true → text ≡ drop 9 line
      → (read : Option OwnIdentity) → read ≡ identity_read text → (r : Result (Option OwnIdentity) Fault) → r ≡ once_read seen.identity read BadIdentity
      → set_by (λ value. record seen { identity = value }) r ≡ turn_of seen (setting_of line)
  unfolding setting_of turn_of identity_of identity_read
  line-identity a b d q read w r e =
      rw (begins line cksn= false a, begins line classmark= false b, begins line identity= true d, ← q)
      (turn_value seen.identity _ _ BadIdentity seen _ (λ value. record seen { identity = value }) refl r (rw w at e))

  pub line-joining : Begins line cksn= false → Begins line classmark= false → Begins line identity= false → Begins line conn_req_ms= true → text ≡ drop 12 line
      → (read : Option ℕ) → read ≡ joining_read text → (r : Result (Option ℕ) Fault) → r ≡ once_read seen.joining read BadJoining
      → set_by (λ value. record seen { joining = value }) r ≡ turn_of seen (setting_of line)
  unfolding setting_of turn_of joining_of milliseconds_read
  line-joining a b d f q read w r e =
      rw (begins line cksn= false a, begins line classmark= false b, begins line identity= false d, begins line conn_req_ms= true f, ← q)
      (turn_value seen.joining _ _ BadJoining seen _ (λ value. record seen { joining = value }) refl r (rw w at e))

  pub line-invitation : Begins line cksn= false → Begins line classmark= false → Begins line identity= false → Begins line conn_req_ms= false → Begins line present_ms= true → text ≡ drop 11 line
      → (read : Option ℕ) → read ≡ invitation_read text → (r : Result (Option ℕ) Fault) → r ≡ once_read seen.invitation read BadInvitation
      → set_by (λ value. record seen { invitation = value }) r ≡ turn_of seen (setting_of line)
  unfolding setting_of turn_of invitation_of milliseconds_read
  line-invitation a b d f g q read w r e =
      rw (begins line cksn= false a, begins line classmark= false b, begins line identity= false d, begins line conn_req_ms= false f, begins line present_ms= true g, ← q)
      (turn_value seen.invitation _ _ BadInvitation seen _ (λ value. record seen { invitation = value }) refl r (rw w at e))

pub line_unknown : (line : List ℕ) (seen : Seen) → Begins line cksn= false → Begins line classmark= false → Begins line identity= false → Begins line conn_req_ms= false → Begins line present_ms= false → Err UnknownName ≡ turn_of seen (setting_of line)
unfolding setting_of turn_of
line_unknown line seen a b d f g = rw (begins line cksn= false a, begins line classmark= false b, begins line identity= false d, begins line conn_req_ms= false f, begins line present_ms= false g)
