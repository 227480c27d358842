-- Contexts that a host kept from before octets 8 and 9 had their use, or octet 2 its fifth bit: these are 0 in them, nothing is remembered, nothing of a group call is
-- kept, and T_pres does not run. Outside U3 and U5 they are fit by the third table exactly if they were by the first; and outside U3 exactly if they were by the second.
use mathlib.Core.Path.{◌≡◌, refl, sym, ◌∙◌}
use mathlib.Core.Bool.{true, false, not, ◌||◌}
use Rattle.octets.proofs.Choice.{never}
use Rattle.std.specs.Prelude.{Some}
use Rattle.codes.specs.declared.state.State.{State}
use Rattle.codes.specs.declared.state.State.TheVariants.{U0, U0p, U1, U2, U3, U4, U5, U6, U2sl, U2wr, U2r, U2ws, U2sr, U2nc}
use Rattle.timer.specs.declared.Timers.{Timers}
use Rattle.timer.specs.declared.Timer.TheVariants.{Pres}
use Rattle.timer.specs.Timers.{with_timer}
use Rattle.timer.proofs.Whole.{if_so, at_timers}
use lib.ListN.{get_or}
use Rattle.codes.specs.declared.protocol.Protocol.TheVariants.{Broadcast}
use Rattle.version.specs.declared.Table.{Table}
use Rattle.version.specs.Version.{protocol_of}
use Rattle.context.specs.Talk.{no_talk}
use Rattle.context_octets.specs.Octets.{chooser_at, octets_of, talk_at, talk_number}
use Rattle.version.specs.declared.Table.TheVariants.{First, Second, Third}
use Rattle.context.specs.declared.Context.{Context}
use Rattle.context.specs.declared.Remembered.{Remembered}
use Rattle.context.specs.States.{same}
use Rattle.fitness.specs.Fitness.{consistent_by, timers_fit_by, remembered_fit_by, chooser_fit_by, pending_fit_by, talk_fit_by, fit_by}
use Rattle.fitness.specs.Tables.{fitness_of, fit_of}
use Rattle.fitness.proofs.Tables.{fit-consistent, fit-value, fit-timers, fit_remembered, fit-known, fit_talk, fit-silent, fit_made}

timers_alike : (s : State) (t : Timers) → same s U5 ≡ false → timers_fit_by (fitness_of Second) s t ≡ timers_fit_by (fitness_of First) s t
unfolding timers_fit_by fitness_of
timers_alike = elim [ U0 ↦ λ t e. refl | U0p ↦ λ t e. refl | U1 ↦ λ t e. refl | U2 ↦ λ t e. refl | U3 ↦ λ t e. refl | U4 ↦ λ t e. refl | U5 ↦ λ t e. never (sym e) | U6 ↦ λ t e. refl | U2sl ↦ λ t e. refl | U2wr ↦ λ t e. refl | U2r ↦ λ t e. refl | U2ws ↦ λ t e. refl | U2sr ↦ λ t e. refl | U2nc ↦ λ t e. refl ]

remembered_alike : (s : State) (r : Remembered) → same s U5 ≡ false → remembered_fit_by (fitness_of Second) s r ≡ remembered_fit_by (fitness_of First) s r
unfolding remembered_fit_by fitness_of
remembered_alike = elim [ U0 ↦ λ r e. refl | U0p ↦ λ r e. refl | U1 ↦ λ r e. refl | U2 ↦ λ r e. refl | U3 ↦ λ r e. refl | U4 ↦ λ r e. refl | U5 ↦ λ r e. never (sym e) | U6 ↦ λ r e. refl | U2sl ↦ λ r e. refl | U2wr ↦ λ r e. refl | U2r ↦ λ r e. refl | U2ws ↦ λ r e. refl | U2sr ↦ λ r e. refl | U2nc ↦ λ r e. refl ]

first-and-second : (x : Context) → same x.state U5 ≡ false → fit_of Second x ≡ fit_of First x
unfolding fit_by consistent_by talk_fit_by chooser_fit_by pending_fit_by fitness_of protocol_of
first-and-second x e = rw (timers_alike x.state x.timers e, remembered_alike x.state x.remembered e)

-- The third differs from the second in U3 alone.
timed_alike : (s : State) (t : Timers) → same s U3 ≡ false → timers_fit_by (fitness_of Third) s t ≡ timers_fit_by (fitness_of Second) s t
unfolding timers_fit_by fitness_of
timed_alike = elim [ U0 ↦ λ t e. refl | U0p ↦ λ t e. refl | U1 ↦ λ t e. refl | U2 ↦ λ t e. refl | U3 ↦ λ t e. never (sym e) | U4 ↦ λ t e. refl | U5 ↦ λ t e. refl | U6 ↦ λ t e. refl | U2sl ↦ λ t e. refl | U2wr ↦ λ t e. refl | U2r ↦ λ t e. refl | U2ws ↦ λ t e. refl | U2sr ↦ λ t e. refl | U2nc ↦ λ t e. refl ]

pub second-and_third : (x : Context) → same x.state U3 ≡ false → fit_of Third x ≡ fit_of Second x
unfolding fit_by consistent_by remembered_fit_by talk_fit_by chooser_fit_by pending_fit_by fitness_of protocol_of
second-and_third x e = rw (timed_alike x.state x.timers e)

pub older_fit : (x : Context) → same x.state U3 ≡ false → same x.state U5 ≡ false → fit_of Third x ≡ fit_of First x
older_fit x three five = second-and_third x three ∙ first-and-second x five

-- In U3 such a context is fit by the third table once T_pres is set in it.
abbrev timed : Context → Context
timed x = record {
  state = x.state;
  parameters = x.parameters;
  timers = with_timer (Some Pres) true x.timers;
  value = x.value;
  reference = x.reference;
  remembered = x.remembered;
  talk = x.talk;
}

set_there : (t : Timers) → timers_fit_by (fitness_of Second) U3 t ≡ true → timers_fit_by (fitness_of Third) U3 (with_timer (Some Pres) true t) ≡ true
unfolding timers_fit_by fitness_of with_timer
set_there t e =
    if_so (timers_fit_by (fitness_of Second) U3 t) _ (at_timers (λ t. not (timers_fit_by (fitness_of Second) U3 t) || timers_fit_by (fitness_of Third) U3 (with_timer (Some Pres) true t)) refl t) e

pub timed-fit : (x : Context) → x.state ≡ U3 → fit_of Second x ≡ true → fit_of Third (timed x) ≡ true
unfolding consistent_by remembered_fit_by talk_fit_by chooser_fit_by pending_fit_by fitness_of protocol_of
timed-fit x there fit =
    fit_made Third (timed x) (fit-known Second x fit) (fit-consistent Second x fit) (fit-value Second x fit) (rw there refl)
    (rw there (set_there x.timers (rw there at (fit-timers Second x fit)))) (fit_remembered Second x fit) (fit_talk Second x fit)

-- Octet 9: zero, it is nothing of a group call; and a broadcast call keeps it zero, so that what is written of it reads as it always did.
pub zero_talk : talk_at 0 ≡ no_talk
unfolding talk_at chooser_at
zero_talk = refl

pub broadcast_zero : (table : Table) (x : Context) → protocol_of table ≡ Broadcast → fit_of table x ≡ true → get_or (octets_of x) 9 0 ≡ 0
unfolding octets_of talk_number
broadcast_zero table x e fit = rw (fit-silent table x fit e) refl
