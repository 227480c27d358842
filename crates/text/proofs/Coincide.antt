-- Any two outcomes that a public contract allows coincide: each contract gives the result, and every byte that was lent, by an equation.
use Prim.Native.Nat.{ℕ}
use mathlib.Core.Path.{◌≡◌, sym, ◌∙◌}
use mathlib.Core.Bool.{Bool}
use mathlib.Core.List.{List}
use Rattle.std.specs.Prelude.{Option}
use Rattle.text.specs.declared.output.Output.{Output}
use Rattle.text.specs.declared.words.Word.{Word}
use Rattle.text.specs.Decimal.{number_of}
use Rattle.text.specs.Hex.{digits_before, spelt, spelt_leaves}
use Rattle.text.specs.Output.{behind, put_leaves}
use Rattle.text.specs.Words.{place_of, same_text, part_of, word_from, next_from, finished_at}

-- One law for every function.
coincide : {A : Type 0} (x y meaning : A) → x ≡ meaning → y ≡ meaning → x ≡ y
coincide x y meaning p q = p ∙ sym q

-- decimal::number_of
pub number_of_coincides : (t : List ℕ) (most : ℕ) (x y : Option ℕ) → x ≡ number_of t most → y ≡ number_of t most → x ≡ y
number_of_coincides t most x y = coincide x y (number_of t most)

-- hex::digits_before
pub digits-before_coincides : (either : Bool) (t : List ℕ) (x y : ℕ) → x ≡ digits_before either t → y ≡ digits_before either t → x ≡ y
digits-before_coincides either t x y = coincide x y (digits_before either t)

-- hex::read_hex, its answer and the buffer
pub read_hex_coincides : (either : Bool) (t b : List ℕ) (at : ℕ) (x y : Option ℕ) → x ≡ spelt either t b at → y ≡ spelt either t b at → x ≡ y
read_hex_coincides either t b at x y = coincide x y (spelt either t b at)

pub read_hex_leaves_coincide : (either : Bool) (t b : List ℕ) (at : ℕ) (x y : List ℕ)
    → x ≡ spelt_leaves either t b at → y ≡ spelt_leaves either t b at → x ≡ y
read_hex_leaves_coincide either t b at x y = coincide x y (spelt_leaves either t b at)

-- output::put, put_hex (t is hex_of of the octets) and put_decimal (t is decimal_of of the number)
pub put_coincides : (b : List ℕ) (o : Output) (t : List ℕ) (x y : Output) → x ≡ behind b o t → y ≡ behind b o t → x ≡ y
put_coincides b o t x y = coincide x y (behind b o t)

pub put_leaves_coincide : (b : List ℕ) (o : Output) (t x y : List ℕ) → x ≡ put_leaves b o t → y ≡ put_leaves b o t → x ≡ y
put_leaves_coincide b o t x y = coincide x y (put_leaves b o t)

-- words::find
pub find_coincides : (b : ℕ) (t : List ℕ) (x y : ℕ) → x ≡ place_of b t → y ≡ place_of b t → x ≡ y
find_coincides b t x y = coincide x y (place_of b t)

-- words::same
pub same_coincides : (s t : List ℕ) (x y : Bool) → x ≡ same_text s t → y ≡ same_text s t → x ≡ y
same_coincides s t x y = coincide x y (same_text s t)

-- words::part
pub part_coincides : (t : List ℕ) (start count : ℕ) (x y : List ℕ) → x ≡ part_of t start count → y ≡ part_of t start count → x ≡ y
part_coincides t start count x y = coincide x y (part_of t start count)

-- words::next_word
pub next_word_coincides : (t : List ℕ) (at : Option ℕ) (x y : Option Word) → x ≡ next_from t at → y ≡ next_from t at → x ≡ y
next_word_coincides t at x y = coincide x y (next_from t at)

-- words::word_at
pub word_at_coincides : (t : List ℕ) (at : ℕ) (x y : Option Word) → x ≡ word_from t at → y ≡ word_from t at → x ≡ y
word_at_coincides t at x y = coincide x y (word_from t at)

-- words::finished
pub finished_coincides : (t : List ℕ) (at : Option ℕ) (x y : Bool) → x ≡ finished_at t at → y ≡ finished_at t at → x ≡ y
finished_coincides t at x y = coincide x y (finished_at t at)
