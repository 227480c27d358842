-- Lines and words: where a byte stands, whether two texts are the same, a part of a text, and words that one space parts.
use Rattle.std.specs.Prelude.{ℕ, suc, ◌+◌, Bool, true, false, cond, List, [], ◌∷◌, length, drop, leb, ltb, eqb, Option, Some, None}
use Rattle.octets.specs.Run.{part}
use Rattle.text.specs.declared.words.Word.{Word}

-- Where the first `b` stands; the length where there is none.
unfoldable pub place_of : ℕ → List ℕ → ℕ
place_of b [] = 0
place_of b (c ∷ cs) = cond (eqb c b) 0 (suc (place_of b cs))

unfoldable pub same_text : List ℕ → List ℕ → Bool
same_text [] [] = true
same_text [] (y ∷ ys) = false
same_text (x ∷ xs) [] = false
same_text (x ∷ xs) (y ∷ ys) = cond (eqb x y) (same_text xs ys) false

-- A part of a text, and nothing where it runs past the end.
unfoldable pub part_of : List ℕ → ℕ → ℕ → List ℕ
part_of s start count = cond (leb (start + count) (length s)) (part s start count) []

-- The word from `at` on, which ends before the next space or with the line, and is not empty.
unfoldable pub word_from : List ℕ → ℕ → Option Word
word_from line at =
    cond (ltb (length line) at) None
    (cond (eqb (place_of 32 (drop at line)) 0) None
    (Some (record {
      start = at;
      count = place_of 32 (drop at line);
      next = at + place_of 32 (drop at line) + 1;
    })))

-- The same where a place may be none, behind a word that was none: none is there then.
unfoldable pub next_from : List ℕ → Option ℕ → Option Word
next_from line None = None
next_from line (Some at) = word_from line at

-- Every word was there and the last ended with the line.
unfoldable pub finished_at : List ℕ → Option ℕ → Bool
finished_at line None = false
finished_at line (Some at) = ltb (length line) at
