-- `copy_behind` meets its contract: a turn copies an octet where one is left, and else changes nothing.
use Rattle.std.proofs.Common.{ℕ, ◌+◌, ◌<◌, ◌≤◌, ◌≡◌, List, length, get_or, set, min, arith, ap, ◌∙◌}
use Rattle.std.proofs.lemmas.List.Edits.{sets}
use Rattle.octets.specs.Run.{part}
use Rattle.octets.proofs.Stores.{copy_turn}
use Rattle.reply.proofs.copy_behind.Goals as goal
use Rattle.reply.proofs.copy_behind.Goals.{then-step-count, else-step-count}

-- An octet is left, and is copied.
copied : (b d s : List ℕ) (j n : ℕ) → b ≡ sets d 1 (part s 0 (min j n)) → j < n → n ≤ length s → set b (1 + j) (get_or s j 0) ≡ sets d 1 (part s 0 (min (j + 1) n))
copied b d s j n e h k =
    let low : min j n ≡ j = omega arith in
    let next : j + 1 ≡ min (j + 1) n = omega arith in
    let place : j ≡ 0 + j = omega arith in
    let before : b ≡ sets d 1 (part s 0 j) = e ∙ ap (λ (m : ℕ). sets d 1 (part s 0 m)) low in
    ap (λ (m : ℕ). set b (1 + j) (get_or s m 0)) place
    ∙ (copy_turn b d 1 s 0 j before (omega arith) ∙ ap (λ (m : ℕ). sets d 1 (part s 0 m)) next)

-- None is left.
kept : (b d s : List ℕ) (j n : ℕ) → b ≡ sets d 1 (part s 0 (min j n)) → n ≤ j → b ≡ sets d 1 (part s 0 (min (j + 1) n))
kept b d s j n e h =
    let same : min j n ≡ min (j + 1) n = omega arith in
    e ∙ ap (λ (m : ℕ). sets d 1 (part s 0 m)) same

pub loop-step-preserved : goal.loop-step-preserved
loop-step-preserved c =
    elim c.if-step-count.branch [
      | then-step-count w ↦ w.source-is ∙ copied c.loop-step.source c.args.source.now c.args.octets.now c.loop-step.step c.args.count c.loop-step.invariant w.if-step-count.true c.requires.1
      | else-step-count w ↦ w.source-is ∙ kept c.loop-step.source c.args.source.now c.args.octets.now c.loop-step.step c.args.count c.loop-step.invariant w.if-step-count.false
    ]
