-- A value part behind a length octet: formats LV and TLV of GSM 04.07.
use Rattle.std.specs.Prelude.{ℕ, ◌+◌, List, cond, length, get_or, leb, Result, Ok, Err}
use Rattle.octets.specs.declared.Run.{Run}
use Rattle.element.specs.declared.Miscount.{Miscount}
use Rattle.element.specs.declared.Miscount.TheVariants.{CutShort, WrongLength}
use Rattle.element.specs.Elements.{within}

-- The length octet at `at` is there, it lies from `low` to `high`, and as many octets follow.
unfoldable pub counted_at : List ℕ → ℕ → ℕ → ℕ → Result Run Miscount
counted_at s at low high =
    cond (leb (length s) at) (Err CutShort)
    (cond (within (get_or s at 0) low high)
    (cond (leb (at + 1 + get_or s at 0) (length s)) (Ok (record { start = at + 1; count = get_or s at 0 })) (Err CutShort)) (Err WrongLength))
