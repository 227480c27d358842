-- Which timer a step sets. Document 01, "The log": a timer starts at the entry that turns it on.
use Rattle.std.specs.Prelude.{ℕ, cond, List, eqb, length}
use Rattle.version.specs.declared.Table.{Table}
use Rattle.context.specs.declared.Context.{Context}
use Rattle.call.specs.Sets.{set_by_due}
use Rattle.message.specs.declared.Own.{Own}
use Rattle.radio.specs.Step.{due_to, refusal_of}
use Rattle.verdict.specs.Table.{GivenEvent}

-- Its number: none where the step is refused, else that which is set by what is due.
unfoldable pub sets_timer : Table → Own → List ℕ → Context → GivenEvent → ℕ
sets_timer table own identity x e =
    cond (eqb (refusal_of table x own.key (length identity) e.happened (length e.octets) 255) 0) (set_by_due table x (due_to table identity x e.happened e.octets)) 0
