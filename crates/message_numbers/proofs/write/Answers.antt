-- `write` meets its contract: the writer's outcome where the numbers mean a message, and a refusal where they do not.
use mathlib.Core.Path.{sym, ◌∙◌}
use Rattle.message_numbers.proofs.Means.{means_message, means_nothing}
use Rattle.message_numbers.proofs.write.Goals as goal

pub returns-clause-value : goal.returns-clause-value
returns-clause-value c = (means_message _ _ _ _ _ _ _ _ (sym c.message_of.ensures ∙ c.in-Some.is) c.wrote_numbers.ensures (c.write.ensures.value, c.write.ensures.buffer_after)).0

pub returns-clause-buffer_after : goal.returns-clause-buffer_after
returns-clause-buffer_after c = (means_message _ _ _ _ _ _ _ _ (sym c.message_of.ensures ∙ c.in-Some.is) c.wrote_numbers.ensures (c.write.ensures.value, c.write.ensures.buffer_after)).1

pub returns-in_default-clause-value : goal.returns-in_default-clause-value
returns-in_default-clause-value c = (means_nothing _ _ _ _ _ (sym c.message_of.ensures ∙ c.in_default.is) c.not_written.ensures).0

pub returns-in_default-clause-buffer_after : goal.returns-in_default-clause-buffer_after
returns-in_default-clause-buffer_after c = (means_nothing _ _ _ _ _ (sym c.message_of.ensures ∙ c.in_default.is) c.not_written.ensures).1
