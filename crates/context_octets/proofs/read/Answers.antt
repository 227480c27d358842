-- `read` meets its contract: the octets are kept or not, and name a state or not.
use mathlib.Core.Path.{sym, ◌∙◌}
use Rattle.context_octets.proofs.Ways.{not-kept, no_state, is_context}
use Rattle.context_octets.proofs.read.Goals as goal

pub returns-then-not-is_kept : goal.returns-then-not-is_kept
returns-then-not-is_kept c = not-kept c.args.octets.now (sym c.is_kept.ensures ∙ c.if-not-is_kept.true)

-- They are kept, and their first octet is a state's number.
pub returns : goal.returns
returns c =
    is_context c.args.octets.now _ _ (sym c.is_kept.ensures ∙ c.if-not-is_kept.false)
    (sym c.in_ok-state.ensures) c.with_state.ensures

-- It is none.
pub returns-in_err-state : goal.returns-in_err-state
returns-in_err-state c =
    c.from_residual.ensures
    ∙ no_state c.args.octets.now (sym c.is_kept.ensures ∙ c.if-not-is_kept.false) (sym c.in_err-state.ensures)
