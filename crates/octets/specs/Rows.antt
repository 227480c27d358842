-- A table as a list of rows, looked up by number, so that a definition can be laid beside a printed table and ticked off.
use Rattle.std.specs.Prelude.{ℕ, List, [], ◌∷◌, cond, eqb}

-- What the first row of number `n` says, and `otherwise` where there is none.
abbrev pub rows : {A : Type 0} → ℕ → A → List (ℕ × A) → A
rows n otherwise [] = otherwise
rows n otherwise (x ∷ xs) = cond (eqb n x.0) x.1 (rows n otherwise xs)
