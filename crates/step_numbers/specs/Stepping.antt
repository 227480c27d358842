-- The step, as C calls it, by a table: sixteen octets of context, twenty-one of settings, an event in numbers, a message and a reply buffer of a length.
use Rattle.std.specs.Prelude.{ℕ, ◌≡◌, List, [], Option, Some, None}
use Rattle.std.proofs.lemmas.List.Edits.{sets}
use Rattle.context.specs.declared.Context.{Context}
use Rattle.version.specs.declared.Table.{Table}
use Rattle.radio.specs.declared.Happened.{Happened}
use Rattle.radio.specs.declared.Outcome.{Outcome}
use Rattle.radio.specs.Step.{Reaction, shown, step_of}
use Rattle.context_octets.specs.Octets.{context_of, octets_of}
use Rattle.settings_octets.specs.Octets.{identity_of, own_of}
use Rattle.step_numbers.specs.declared.Occurrence.{Occurrence}
use Rattle.step_numbers.specs.declared.Step.{Step}

-- An event as the step takes it.
abbrev pub happened_of : Occurrence → Happened
happened_of e = record {
  number = e.number;
  value = e.value;
  reference = record { first = e.first; second = e.second; third = e.third; fourth = e.fourth };
  mode = e.mode;
}

-- An outcome in C's numbers.
abbrev pub step_shown : Outcome → Step
step_shown o = record { answer = o.answer; reason = o.reason; actions = o.actions; count = o.count }

-- What a call comes to: the step in C's numbers, the context's octets afterwards, and the octets of the reply.
pub record Call : Type 0 where
  pub step : Step
  pub context : List ℕ
  pub reply : List ℕ

-- What a call leaves: its result, the context's octets, and the reply over the start of the reply buffer, of which no other octet is changed.
abbrev pub Comes : Call → (before : List ℕ) → Step → (context reply : List ℕ) → Type 0
Comes call before r context reply = (r ≡ call.step) × (context ≡ call.context) × (reply ≡ sets before 0 call.reply)

-- What a step comes to.
unfoldable pub called : Reaction → Call
called r = record { step = step_shown (shown r).outcome; context = octets_of r.context; reply = r.reply }

-- The call where the sixteen octets are a context.
unfoldable pub call_from : Table → (settings : List ℕ) (room : ℕ) → Occurrence → (message : List ℕ) → Context → Call
call_from table s room e m x = called (step_of table (own_of s) (identity_of s) room x (happened_of e) m)

-- Answer 7 and nothing changed, where they are none.
abbrev pub no_call : List ℕ → Call
no_call c = record { step = record { answer = 7; reason = 0; actions = 0; count = 0 }; context = c; reply = [] }

unfoldable pub call_on : Table → (context settings : List ℕ) (room : ℕ) → Occurrence → (message : List ℕ) → Option Context → Call
call_on table c s room e m (Some x) = call_from table s room e m x
call_on table c s room e m None = no_call c

-- The call.
unfoldable pub call_of : Table → (context settings : List ℕ) (room : ℕ) → Occurrence → (message : List ℕ) → Call
call_of table c s room e m = call_on table c s room e m (context_of c)
