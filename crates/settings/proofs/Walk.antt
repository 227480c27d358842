-- Laws of the walk through a file, in the terms of the loop: at a place, with the number of the line that starts there and what is seen.
use Prim.Native.Nat.{ℕ, suc, ◌+◌, ◌-◌, ◌≤◌, ◌<◌}
use mathlib.Core.Path.{◌≡◌}
use mathlib.Core.List.{List, ◌∷◌, map}
use native.Mathlib.Omega.{arith}
use native.Mathlib.Numerals.{add-one}
use lib.ListN.{length, drop, length-drop, drop_of_length-le}
use lib.Seq.{drop-drop}
use Rattle.std.specs.Prelude.{Result, Ok, Err}
use Rattle.octets.specs.Run.{part}
use Rattle.settings_line.specs.declared.Fault.TheVariants.{NoLineFeed}
use Rattle.settings_line.specs.declared.Seen.{Seen}
use Rattle.settings_line.specs.declared.Fault.{Fault}
use Rattle.settings_values.specs.declared.Settings.{Settings}
use Rattle.settings.specs.declared.Refusal.{Refusal}
use Rattle.settings.specs.Lines.{Ended, lines, first_feed}
use Rattle.settings_line.specs.Line.{setting_of, turn_of}
use Rattle.settings.specs.Settings.{meaning, refused_at, outcome_at, onward, end_of, read_from}
use Rattle.settings.proofs.Lines.{line-ended, line-cut}

-- What the file from a place on makes of what is seen before it.
abbrev pub left : List ℕ → ℕ → ℕ → Seen → Result Settings Refusal
left file at number seen = read_from number seen (map meaning (lines (drop at file)))

pub walk_end : (file : List ℕ) (at number : ℕ) (seen : Seen) → length file ≤ at → end_of number seen ≡ left file at number seen
unfolding lines read_from
walk_end file at number seen h = rw (drop_of_length-le file h)

-- One line, from its place to that of the next LF.
module _ (file : List ℕ) (at number end : ℕ) (seen : Seen) (h : at < length file) (p : end ≡ at + first_feed (drop at file)) where
  pub walk_cut : length file ≤ end → refused_at number NoLineFeed ≡ left file at number seen
  unfolding read_from turn_of
  walk_cut k =
      let e : end ≡ at + first_feed (drop at file) = p in
      let d : length (drop at file) ≡ length file - at = length-drop at file in
      rw (line-cut (drop at file) (omega arith) (omega arith))

  module _ (k : end < length file) where
    line-here : lines (drop at file) ≡ Ended (part file at (end - at)) ∷ lines (drop (end + 1) file)
    line-here =
        let e : end ≡ at + first_feed (drop at file) = p in
        let d : length (drop at file) ≡ length file - at = length-drop at file in
        let i : end - at ≡ first_feed (drop at file) = omega arith in
        let j : end + 1 ≡ at + suc (first_feed (drop at file)) = omega arith in
        rw (i, j, ← drop-drop (suc (first_feed (drop at file))) at file) (line-ended (drop at file) (omega arith))

    module _ (turn : Result Seen Fault) (q : turn ≡ turn_of seen (setting_of (part file at (end - at)))) where
      pub walk_stop : (refusal : Refusal) → Err refusal ≡ outcome_at number turn → Err refusal ≡ left file at number seen
      unfolding read_from
      walk_stop refusal e = rw (line-here, ← q) (go turn e)
        where
          go : (t : Result Seen Fault) → Err refusal ≡ outcome_at number t
              → Err refusal ≡ onward number t (λ next. left file (end + 1) (suc number) next)
          go (Ok next) e = absurd (cc)
          go (Err fault) e = cc

      pub walk_on : (next : Seen) → Ok next ≡ outcome_at number turn → left file (end + 1) (number + 1) next ≡ left file at number seen
      unfolding read_from
      walk_on next e = rw (line-here, ← q, add-one number) (go turn e)
        where
          go : (t : Result Seen Fault) → Ok next ≡ outcome_at number t
              → left file (end + 1) (suc number) next ≡ onward number t (λ later. left file (end + 1) (suc number) later)
          go (Ok later) e = let s : next ≡ later = cc in rw s
          go (Err fault) e = absurd (cc)
