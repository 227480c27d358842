-- Any two outcomes that a public contract of this crate allows coincide. The public functions: `read_key`, `read_classmark`, `read_identity`, `read_joining`, `read_invitation`.
use Prim.Native.Nat.{ℕ}
use mathlib.Core.Path.{◌≡◌}
use mathlib.Core.List.{List}
use Rattle.std.specs.Prelude.{Option}
use Rattle.octets.proofs.Coincide.{coincide}
use Rattle.settings_values.specs.declared.OwnIdentity.{OwnIdentity}
use Rattle.settings_values.specs.Values.{key_read, classmark_read, identity_read, joining_read, invitation_read}

pub read-key_coincides : (text : List ℕ) (a b : Option ℕ) → a ≡ key_read text → b ≡ key_read text → a ≡ b
read-key_coincides text = coincide (key_read text)

pub read-classmark_coincides : (text : List ℕ) (a b : Option (List ℕ)) → a ≡ classmark_read text → b ≡ classmark_read text → a ≡ b
read-classmark_coincides text = coincide (classmark_read text)

pub read-identity_coincides : (text : List ℕ) (a b : Option OwnIdentity) → a ≡ identity_read text → b ≡ identity_read text → a ≡ b
read-identity_coincides text = coincide (identity_read text)

pub read-joining_coincides : (text : List ℕ) (a b : Option ℕ) → a ≡ joining_read text → b ≡ joining_read text → a ≡ b
read-joining_coincides text = coincide (joining_read text)

pub read-invitation_coincides : (text : List ℕ) (a b : Option ℕ) → a ≡ invitation_read text → b ≡ invitation_read text → a ≡ b
read-invitation_coincides text = coincide (invitation_read text)
