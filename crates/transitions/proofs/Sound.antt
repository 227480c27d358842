-- Sound rows: tests that are computed over a table's rows, from which it follows of every step by them that a fit context stays fit, that no timer is set anew while
-- it runs, that actions are at most their sum, and that only a message is answered by a STATUS. A table that is added is rows, and these tests run over them.
use Prim.Native.Nat.{ℕ}
use mathlib.Core.Path.{◌≡◌, refl}
use mathlib.Core.List.{List, [], ◌∷◌}
use mathlib.Core.Bool.{Bool, true, false, cond, not, ◌&&◌, ◌||◌}
use lib.Dec.{eqb, leb}
use Rattle.codes.specs.declared.state.State.TheVariants.{U0, U2ws}
use Rattle.timer.specs.Timers.{any_on, number_of_any, running_among, with_timer}
use Rattle.context.specs.declared.Chooser.{Chooser}
use Rattle.context.specs.declared.Chooser.TheVariants.{Us, Cell}
use Rattle.context.specs.States.{same, among}
use Rattle.context.proofs.Whole.{of_choosers}
use Rattle.fitness.specs.Fitness.{Fitness, timers_fit_by, remembered_fit_by, chooser_fit_by}
use Rattle.version.specs.declared.Table.{Table}
use Rattle.version.specs.declared.Table.TheVariants.{First, Second, Third, Group}
use Rattle.version.specs.Version.{protocol_of, greatest_actions}
use Rattle.context.specs.Remembered.{remembering, returning}
use Rattle.fitness.specs.Tables.{fitness_of}
use Rattle.fitness.proofs.Sound.{Sound as SoundFitness}
use Rattle.fitness.proofs.Tables.{fitness_sound as of-fitness}
use Rattle.transitions.specs.declared.Note.{Note}
use Rattle.transitions.specs.declared.Stores.{Stores}
use Rattle.transitions.specs.Table.{
  Effect,
  send,
  stop,
  set,
  set_unless_running,
  store_value-and-reference,
  store_its_reference,
  store_its_reference-and_originator,
  mind,
  note,
  Row,
  row,
  step_table,
  timers_after,
  remembered_after,
}
use Rattle.transitions.proofs.Every.{Test, passes}
use Rattle.transitions.proofs.Types.{of_types}

-- The kinds of effects: what is sent, stopped, set, stored, remembered and noted.
abbrev pub kind_of : Effect → ℕ
kind_of (send m) = 0
kind_of (stop k) = 1
kind_of (set k) = 2
kind_of (set_unless_running k) = 2
kind_of store_value-and-reference = 3
kind_of store_its_reference = 3
kind_of store_its_reference-and_originator = 3
kind_of (mind m) = 4
kind_of (note n) = 5

abbrev pub has_kind : ℕ → List Effect → Bool
has_kind kind [] = false
has_kind kind (e ∷ more) = eqb kind (kind_of e) || has_kind kind more

-- No two effects are of a kind.
abbrev pub single : List Effect → Bool
single [] = true
single (e ∷ more) = not (has_kind (kind_of e) more) && single more

abbrev pub singles : List Row → Bool
singles [] = true
singles (row places occasion next actions effects ∷ more) = single effects && singles more

-- Timers, and what is remembered, that fit the state fit the next one afterwards; unless that is U0, which clears.
abbrev pub keeps_fit : Fitness → Test
keeps_fit fitness n s t r d =
    same d.next U0
    || (not (timers_fit_by fitness s t && remembered_fit_by fitness s r)
    || (timers_fit_by fitness d.next (timers_after d t) && remembered_fit_by fitness d.next (remembered_after d.memory s r)))

-- What a row notes: a pending request, a pending STATUS, who chose the value.
abbrev pub pends_termination : Note → Bool
pends_termination Note.Nothing = false
pends_termination Note.WeChose = false
pends_termination Note.CellChose = false
pends_termination Note.TerminationPends = true
pends_termination Note.StatusPends = false
pends_termination Note.TerminationDropped = false

abbrev pub pends_status : Note → Bool
pends_status Note.Nothing = false
pends_status Note.WeChose = false
pends_status Note.CellChose = false
pends_status Note.TerminationPends = false
pends_status Note.StatusPends = true
pends_status Note.TerminationDropped = false

abbrev pub chooser_after : Note → Chooser → Chooser
chooser_after Note.Nothing c = c
chooser_after Note.WeChose c = Us
chooser_after Note.CellChose c = Cell
chooser_after Note.TerminationPends c = c
chooser_after Note.StatusPends c = c
chooser_after Note.TerminationDropped c = c

-- Its ORIG is the message's.
abbrev pub names_originator : Stores → Bool
names_originator Stores.Nothing = false
names_originator Stores.ValueAndReference = false
names_originator Stores.ItsReference = false
names_originator Stores.ItsReferenceAndOriginator = true

-- What a group call keeps stays where it may be: the next state is one of the table's; where something is pending or becomes so it may be there, and a value may be
-- awaited where one was, or where U2ws is entered; ORIG is the message's only where a state is entered in which none was awaited; and whoever chose the value may have.
abbrev pub keeps_talk : Fitness → Test
keeps_talk fitness n s t r d =
    same d.next U0
    || (not (remembered_fit_by fitness s r)
    || (among d.next fitness.states
    && ((not (pends_termination d.note) || among s fitness.requesting)
    && ((not (among s fitness.requesting) || among d.next fitness.requesting)
    && ((not (among s fitness.asked || pends_status d.note) || among d.next fitness.asked)
    && ((not (among s fitness.awaiting) || (among d.next fitness.awaiting && not (names_originator d.stores)))
    && ((not (same d.next U2ws) || among d.next fitness.awaiting)
    && ((not (names_originator d.stores) || not (same s d.next))
    && of_choosers (λ c.
    not (chooser_fit_by fitness s r c)
    || chooser_fit_by fitness d.next (remembered_after d.memory s r) (chooser_after d.note c))))))))))

-- No timer is set that runs.
abbrev pub sets_fresh : Fitness → Test
sets_fresh fitness n s t r d = not (timers_fit_by fitness s t) || not (any_on d.sets t)

-- By numbers of timers, of what is set, what ran before and what runs after: what is set did not run, and runs; where none is set, what runs is what ran.
abbrev pub rightly : ℕ → ℕ → ℕ → Bool
rightly started before after = cond (eqb started 0) (eqb after 0 || eqb after before) (eqb after started && not (eqb before started))

abbrev pub sets_rightly : Fitness → Test
sets_rightly fitness n s t r d =
    not (timers_fit_by fitness s t) || rightly (number_of_any d.sets) (running_among t) (cond (same d.next U0) 0 (running_among (timers_after d t)))

-- The actions are at most a number.
abbrev pub at_most : ℕ → Test
at_most most n s t r d = leb d.actions most

-- The rows of a table are sound by what it says of fitness, with actions of at most a number.
pub record Sound (fitness : Fitness) (most : ℕ) (table : List Row) : Type 0 where
  pub fitness_sound : SoundFitness fitness
  pub effects_single : singles table ≡ true
  pub types-known : of_types table ≡ true
  pub fit-kept : passes (keeps_fit fitness) table ≡ true
  pub talk_kept : passes (keeps_talk fitness) table ≡ true
  pub set_fresh : passes (sets_fresh fitness) table ≡ true
  pub set-rightly : passes (sets_rightly fitness) table ≡ true
  pub actions-few : passes (at_most most) table ≡ true

-- ---- the tests, computed: each by itself, since a declaration may take only so many steps

fit-kept-first : passes (keeps_fit (fitness_of First)) (step_table First) ≡ true
unfolding step_table fitness_of protocol_of greatest_actions timers_fit_by remembered_fit_by chooser_fit_by running_among with_timer remembering returning
fit-kept-first = refl

talk_kept-first : passes (keeps_talk (fitness_of First)) (step_table First) ≡ true
unfolding step_table fitness_of protocol_of greatest_actions timers_fit_by remembered_fit_by chooser_fit_by running_among with_timer remembering returning
talk_kept-first = refl

set_fresh_first : passes (sets_fresh (fitness_of First)) (step_table First) ≡ true
unfolding step_table fitness_of protocol_of greatest_actions timers_fit_by remembered_fit_by chooser_fit_by running_among with_timer remembering returning
set_fresh_first = refl

set-rightly-first : passes (sets_rightly (fitness_of First)) (step_table First) ≡ true
unfolding step_table fitness_of protocol_of greatest_actions timers_fit_by remembered_fit_by chooser_fit_by running_among with_timer remembering returning
set-rightly-first = refl

actions-few-first : passes (at_most (greatest_actions First)) (step_table First) ≡ true
unfolding step_table fitness_of protocol_of greatest_actions timers_fit_by remembered_fit_by chooser_fit_by running_among with_timer remembering returning
actions-few-first = refl

fit-kept-second : passes (keeps_fit (fitness_of Second)) (step_table Second) ≡ true
unfolding step_table fitness_of protocol_of greatest_actions timers_fit_by remembered_fit_by chooser_fit_by running_among with_timer remembering returning
fit-kept-second = refl

talk_kept-second : passes (keeps_talk (fitness_of Second)) (step_table Second) ≡ true
unfolding step_table fitness_of protocol_of greatest_actions timers_fit_by remembered_fit_by chooser_fit_by running_among with_timer remembering returning
talk_kept-second = refl

set_fresh_second : passes (sets_fresh (fitness_of Second)) (step_table Second) ≡ true
unfolding step_table fitness_of protocol_of greatest_actions timers_fit_by remembered_fit_by chooser_fit_by running_among with_timer remembering returning
set_fresh_second = refl

set-rightly-second : passes (sets_rightly (fitness_of Second)) (step_table Second) ≡ true
unfolding step_table fitness_of protocol_of greatest_actions timers_fit_by remembered_fit_by chooser_fit_by running_among with_timer remembering returning
set-rightly-second = refl

actions-few-second : passes (at_most (greatest_actions Second)) (step_table Second) ≡ true
unfolding step_table fitness_of protocol_of greatest_actions timers_fit_by remembered_fit_by chooser_fit_by running_among with_timer remembering returning
actions-few-second = refl

fit-kept_third : passes (keeps_fit (fitness_of Third)) (step_table Third) ≡ true
unfolding step_table fitness_of protocol_of greatest_actions timers_fit_by remembered_fit_by chooser_fit_by running_among with_timer remembering returning
fit-kept_third = refl

talk_kept_third : passes (keeps_talk (fitness_of Third)) (step_table Third) ≡ true
unfolding step_table fitness_of protocol_of greatest_actions timers_fit_by remembered_fit_by chooser_fit_by running_among with_timer remembering returning
talk_kept_third = refl

set_fresh_third : passes (sets_fresh (fitness_of Third)) (step_table Third) ≡ true
unfolding step_table fitness_of protocol_of greatest_actions timers_fit_by remembered_fit_by chooser_fit_by running_among with_timer remembering returning
set_fresh_third = refl

set-rightly_third : passes (sets_rightly (fitness_of Third)) (step_table Third) ≡ true
unfolding step_table fitness_of protocol_of greatest_actions timers_fit_by remembered_fit_by chooser_fit_by running_among with_timer remembering returning
set-rightly_third = refl

actions-few_third : passes (at_most (greatest_actions Third)) (step_table Third) ≡ true
unfolding step_table fitness_of protocol_of greatest_actions timers_fit_by remembered_fit_by chooser_fit_by running_among with_timer remembering returning
actions-few_third = refl

fit-kept-group : passes (keeps_fit (fitness_of Group)) (step_table Group) ≡ true
unfolding step_table fitness_of protocol_of greatest_actions timers_fit_by remembered_fit_by chooser_fit_by running_among with_timer remembering returning
fit-kept-group = refl

talk_kept-group : passes (keeps_talk (fitness_of Group)) (step_table Group) ≡ true
unfolding step_table fitness_of protocol_of greatest_actions timers_fit_by remembered_fit_by chooser_fit_by running_among with_timer remembering returning
talk_kept-group = refl

set_fresh_group : passes (sets_fresh (fitness_of Group)) (step_table Group) ≡ true
unfolding step_table fitness_of protocol_of greatest_actions timers_fit_by remembered_fit_by chooser_fit_by running_among with_timer remembering returning
set_fresh_group = refl

set-rightly-group : passes (sets_rightly (fitness_of Group)) (step_table Group) ≡ true
unfolding step_table fitness_of protocol_of greatest_actions timers_fit_by remembered_fit_by chooser_fit_by running_among with_timer remembering returning
set-rightly-group = refl

actions-few-group : passes (at_most (greatest_actions Group)) (step_table Group) ≡ true
unfolding step_table fitness_of protocol_of greatest_actions timers_fit_by remembered_fit_by chooser_fit_by running_among with_timer remembering returning
actions-few-group = refl

-- The rows of each table are sound, and their actions are at most what a log of it takes: the sum of all, six of a broadcast call and seven of a group call.
pub rows_sound : (table : Table) → Sound (fitness_of table) (greatest_actions table) (step_table table)
unfolding step_table protocol_of
rows_sound First = record {
  fitness_sound = of-fitness First;
  effects_single = refl;
  types-known = refl;
  fit-kept = fit-kept-first;
  talk_kept = talk_kept-first;
  set_fresh = set_fresh_first;
  set-rightly = set-rightly-first;
  actions-few = actions-few-first;
}
rows_sound Second = record {
  fitness_sound = of-fitness Second;
  effects_single = refl;
  types-known = refl;
  fit-kept = fit-kept-second;
  talk_kept = talk_kept-second;
  set_fresh = set_fresh_second;
  set-rightly = set-rightly-second;
  actions-few = actions-few-second;
}
rows_sound Third = record {
  fitness_sound = of-fitness Third;
  effects_single = refl;
  types-known = refl;
  fit-kept = fit-kept_third;
  talk_kept = talk_kept_third;
  set_fresh = set_fresh_third;
  set-rightly = set-rightly_third;
  actions-few = actions-few_third;
}
rows_sound Group = record {
  fitness_sound = of-fitness Group;
  effects_single = refl;
  types-known = refl;
  fit-kept = fit-kept-group;
  talk_kept = talk_kept-group;
  set_fresh = set_fresh_group;
  set-rightly = set-rightly-group;
  actions-few = actions-few-group;
}
