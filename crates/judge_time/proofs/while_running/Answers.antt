-- `while_running` meets its contract: the rule of a timer whose length is known is broken, or what is left of the others decides.
use mathlib.Core.Path.{sym, ◌∙◌}
use Rattle.judge_time.proofs.Ticking.{rule_broken, rule_kept}
use Rattle.judge_time.proofs.while_running.Goals as goal

pub returns-then-is_untimely : goal.returns-then-is_untimely
returns-then-is_untimely c = rule_broken _ _ _ _ _ _ _ (sym c.is_untimely.ensures ∙ c.if-is_untimely.true)

pub returns : goal.returns
returns c =
    let said = c.args in
    rule_kept said.joining said.invitation said.timer said.age said.ends said.time said.started (sym c.is_untimely.ensures ∙ c.if-is_untimely.false)
    _ _ c.timer_number.ensures c.timer_number-2.ensures _ _ c.window_left-joining_left.ensures c.window_left-invitation_left.ensures _ c.left_with.ensures
