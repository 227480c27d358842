-- Optional elements, as they stand behind a message's mandatory part.
-- Document 01, "Received messages": identifier with bit 8 set is one octet, others carry a length octet. Skipping stops at the first element
-- that runs past the end, which counts as absent; its identifier is still looked at.
use Rattle.std.specs.Prelude.{ℕ, zero, suc, ◌+◌, List, Bool, cond, ◌&&◌, length, get_or, leb, Option, Some, None, option_and_then}

-- `octet` is `low` to `high`.
unfoldable pub within : ℕ → ℕ → ℕ → Bool
within octet low high = leb low octet && leb octet high

-- The element at `at` is one octet, or an identifier, a length octet and as many octets; where these are not all there, it runs past the end.
unfoldable pub next_element : List ℕ → ℕ → Option ℕ
next_element s at =
    cond (leb 128 (get_or s at 0)) (Some (at + 1))
    (let next : ℕ = at + 2 + get_or s (at + 1) 0 in cond (leb next (length s)) (Some next) None)

-- The first element from `at` on with an identifier from `low` to `high`, among at most `most` elements.
unfoldable pub element_among : ℕ → List ℕ → ℕ → ℕ → ℕ → Option (ℕ × ℕ)
element_among zero s at low high = None
element_among (suc most) s at low high =
    cond (leb (length s) at) None
    (cond (within (get_or s at 0) low high) (Some (at, get_or s at 0))
    (option_and_then (λ next. element_among most s next low high) (next_element s at)))

-- No message has more elements than octets.
unfoldable pub element_from : List ℕ → ℕ → ℕ → ℕ → Option (ℕ × ℕ)
element_from s at low high = element_among (length s) s at low high
