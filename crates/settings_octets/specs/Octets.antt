-- The twenty-one octets of settings: 0 ciphering key number, 1 to 3 classmark, 4 length of the own identity, 5 to 12 the identity and zeros behind it,
-- 13 to 16 the joining timer and 17 to 20 the invitation timer, each in milliseconds, low octet first.
use Rattle.std.specs.Prelude.{ℕ, ◌+◌, ◌*◌, min, List, ◌∷◌, ◌++◌, cond, ltb, get_or}
use Rattle.octets.specs.Run.{part}
use Rattle.octets.specs.Little.{little}
use Rattle.octets.specs.declared.Run.{Run}
use Rattle.message.specs.declared.Own.{Own}
use Rattle.settings_values.specs.declared.Settings.{Settings}

-- What a step is told of the station beside its identity.
unfoldable pub own_of : List ℕ → Own
own_of s = record { key = get_or s 0 0; classmark = record { first = get_or s 1 0; second = get_or s 2 0; third = get_or s 3 0 } }

-- Where an identity of a length stands: from octet 5 on. There is room for no identity of more than 8: such a length is handed on as nine octets,
-- for a step and a judgement to refuse in their order.
unfoldable pub run_of : ℕ → Run
run_of n = cond (ltb 8 n) (record { start = 0; count = 9 }) (record { start = 5; count = n })

-- Octet 4 is the identity's length.
abbrev pub identity_run : List ℕ → Run
identity_run s = run_of (get_or s 4 0)

abbrev pub identity_of : List ℕ → List ℕ
identity_of s = part s (identity_run s).start (identity_run s).count

-- A length in an octet; 255 for one that no octet holds, which settings that were read never have.
unfoldable pub length_octet : ℕ → ℕ
length_octet count = min count 255

-- The timer, in milliseconds, whose four octets begin at a place.
unfoldable pub timer_at : List ℕ → ℕ → ℕ
timer_at s place = get_or s place 0 + 256 * get_or s (place + 1) 0 + 65536 * get_or s (place + 2) 0 + 16777216 * get_or s (place + 3) 0

-- The twenty-one octets of settings.
unfoldable pub octets_of : Settings → List ℕ
octets_of x =
    let c : List ℕ = x.classmark in
    let i : List ℕ = x.identity in
    x.key ∷
    get_or c 0 0 ∷ get_or c 1 0 ∷ get_or c 2 0 ∷
    length_octet x.count ∷
    get_or i 0 0 ∷ get_or i 1 0 ∷ get_or i 2 0 ∷ get_or i 3 0 ∷ get_or i 4 0 ∷ get_or i 5 0 ∷ get_or i 6 0 ∷ get_or i 7 0 ∷
    little x.joining ++ little x.invitation
