-- `due_to` meets its contract: a message goes by the six rules, any other event by its number.
use mathlib.Core.Path.{sym, refl, ◌∙◌}
use Rattle.radio.proofs.Reacting.{by-message, by-event, by-none}
use Rattle.radio.proofs.due_to.Goals as goal

pub returns-then-happened-eq-RECEIVED : goal.returns-then-happened-eq-RECEIVED
returns-then-happened-eq-RECEIVED c = by-message _ _ _ _ _ _ c.if-happened-eq-RECEIVED.true c.listen.ensures

pub returns-in-Some : goal.returns-in-Some
returns-in-Some c = by-event _ _ _ _ _ _ c.if-happened-eq-RECEIVED.false _ (sym c.event_of.ensures ∙ c.in-Some.is) refl

pub returns-in-None : goal.returns-in-None
returns-in-None c = by-none _ _ _ _ _ _ c.if-happened-eq-RECEIVED.false (sym c.event_of.ensures ∙ c.in-None.is) refl
