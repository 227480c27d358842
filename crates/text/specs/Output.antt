-- Text that is put behind what a lent buffer holds already.
use Rattle.std.specs.Prelude.{ℕ, ◌+◌, Bool, cond, List, length, leb}
use Rattle.std.proofs.lemmas.List.Edits.{sets}
use Rattle.text.specs.declared.output.Output.{Output}

-- Whether `text` has room in `buffer` from the output's place on.
unfoldable pub has_room : List ℕ → Output → List ℕ → Bool
has_room buffer output text = leb (output.at + length text) (length buffer)

-- The output's place behind `text`, and the buffer with it; where there is no room, both stay as they were.
unfoldable pub behind : List ℕ → Output → List ℕ → Output
behind buffer output text = cond (has_room buffer output text) (record { at = output.at + length text }) output

unfoldable pub put_leaves : List ℕ → Output → List ℕ → List ℕ
put_leaves buffer output text = cond (has_room buffer output text) (sets buffer output.at text) buffer
