-- A run: octets that stand together in a list, told by the place of the first and their count.
use Rattle.std.specs.Prelude.{ℕ, List, take, drop}

-- The `count` octets of `s` from `start` on.
abbrev pub part : List ℕ → ℕ → ℕ → List ℕ
part s start count = take count (drop start s)
