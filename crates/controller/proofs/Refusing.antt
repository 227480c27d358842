-- Steps and judgements that are refused whatever is told: by a reply buffer that is too short, and by settings out of range. So what a host forgot to fill is no
-- default.
use Prim.Native.Nat.{ℕ, ◌≤◌, ◌<◌}
use mathlib.Core.Path.{◌≡◌, refl, sym, ap, ◌∙◌}
use mathlib.Core.Bool.{Bool, true, false, cond, ◌&&◌, or-true}
use mathlib.Core.List.{List, []}
use native.Mathlib.Omega.{arith}
use lib.Dec.{eqb, ltb}
use lib.ListN.{length, replicate}
use borrow.Author.Tests.{le-ltb, ne_eqb}
use Rattle.octets.proofs.Choice.{never}
use Rattle.version.specs.declared.Table.{Table}
use Rattle.version.specs.Version.{longest}
use Rattle.context.specs.declared.Context.{Context}
use Rattle.fitness.specs.Tables.{fit_of}
use Rattle.message.specs.declared.Own.{Own}
use Rattle.step_arguments.specs.Arguments.{argument_refusal, out_of_range, settings_out}
use Rattle.radio.specs.declared.Happened.{Happened}
use Rattle.radio.specs.Step.{fitness_refusal, refusal_of, refused, step_of}
use Rattle.radio.proofs.Range.{InRange, in_range, neither_first, refused_over}
use Rattle.radio.proofs.Reacting.{of_step}
use Rattle.settings.specs.Settings.{settings_of}
use Rattle.log_entry.specs.Layout.{Meant, ranged}
use Rattle.log_entry.proofs.Fields.{claim-fits, ranged-claim}
use Rattle.recorder.specs.Recording.{record_answer}
use Rattle.verdict.specs.declared.Judged.TheVariants.{OutOfRange, TooLong}
use Rattle.verdict.specs.Judge.{judge_of}
use Rattle.std.specs.Prelude.{Option, Some, None}
use Rattle.context_octets.specs.Octets.{context_of}
use Rattle.settings_octets.specs.Octets.{identity_of, own_of, run_of}
use Rattle.step_numbers.specs.declared.Occurrence.{Occurrence}
use Rattle.step_numbers.specs.Stepping.{Call, call_from, call_of, call_on, called, happened_of}
use Rattle.step_numbers.proofs.Laws.{call_keeps}
use Rattle.record_numbers.specs.declared.Used.{Used}
use Rattle.record_numbers.specs.Recording.{EntryRecorded}
use Rattle.judge_numbers.specs.Judging.{at_entry, judgement_of}
use Rattle.settings_numbers.specs.declared.SettingsRead.{SettingsRead}
use Rattle.settings_numbers.specs.Configuring.{kept_octets, settings_shown}
use Rattle.settings_numbers.proofs.Taken.{file_refused}

-- ---- in the terms of the step and of the judge

module _ (table : Table) (own : Own) (identity : List ℕ) (room : ℕ) (x : Context) (h : Happened) (s : List ℕ) where
  -- A step whose arguments or context pass not every test is answered over 3.
  untaken : (InRange table x own.key (length identity) h (length s) room → ⊥) → 3 < (step_of table own identity room x h s).answer
  untaken out =
      of_step table own identity room x h s (λ r. 3 < r.answer)
      (refused_over table x own.key (length identity) h (length s) room (λ z. out (in_range table x own.key (length identity) h (length s) room z)))
      (λ o. absurd (out o))

  pub short_untaken : room < 255 → 3 < (step_of table own identity room x h s).answer
  short_untaken l = untaken (λ o. omega (arith, l, o.big))

  module _ (out : settings_out own.key (length identity) ≡ true) where
    pub out_untaken : 3 < (step_of table own identity room x h s).answer
    unfolding out_of_range
    out_untaken = untaken (λ o. never (sym (neither_first (settings_out own.key (length identity)) _ o.range) ∙ out))

    -- With 4, where the tests before it pass: 7, 5 and 6.
    pub out_four : fit_of table x ≡ true → 255 ≤ room → eqb h.number 18 && ltb 251 (length s) ≡ false → step_of table own identity room x h s ≡ refused 4 x
    unfolding step_of refusal_of fitness_refusal argument_refusal out_of_range
    out_four fit big short = rw (fit, le-ltb room 255 big, short, out)

pub out_unjudged : (own : Own) (identity log : List ℕ) → settings_out own.key (length identity) ≡ true
    → judge_of own identity log ≡ cond (ltb longest (length log)) TooLong OutOfRange
unfolding judge_of
out_unjudged own identity log out = rw out

-- ---- for a host in C

-- A call that is answered 4 to 7: nothing that was lent is changed, and there is nothing to do.
pub record Untaken (context : List ℕ) (call : Call) : Type 0 where
  pub answer : 3 < call.step.answer
  pub kept : call.context ≡ context
  pub still : call.step.actions ≡ 0
  pub silent : call.reply ≡ []

-- A host that has such a step recorded all the same is refused there too, and nothing is changed.
pub untaken_unrecorded : (table : Table) (e : Meant) (used : ℕ) (before after : List ℕ) (r : Used) → 3 < e.answer → EntryRecorded table e used before r after
    → (r ≡ record { answer = 4; used = used }) × (after ≡ before)
unfolding record_answer
untaken_unrecorded table e used before after r over p =
    rw (go (ranged table e) refl, or-true (ltb (length before) used)) at p
  where
    go : (b : Bool) → ranged table e ≡ b → ranged table e ≡ false
    go false q = q
    go true q =
        let l : e.answer ≤ 3 = (claim-fits table e.answer e.state e.parameters e.actions e.reply (ranged-claim table e q)).0 in
        absurd (omega (arith, l, over))

-- Settings with which every step is refused, with 4 where the tests before it pass, and every judgement, with 4 where the log is not too long.
pub record AllRefused (settings : List ℕ) : Type 0 where
  pub steps : (table : Table) (context : List ℕ) (room : ℕ) (e : Occurrence) (m : List ℕ) → length context ≡ 16 → Untaken context (call_of table context settings room e m)
  pub four : (table : Table) (context : List ℕ) (x : Context) (room : ℕ) (e : Occurrence) (m : List ℕ) → context_of context ≡ Some x → fit_of table x ≡ true → 255 ≤ room
      → eqb e.number 18 && ltb 251 (length m) ≡ false → (call_of table context settings room e m).step.answer ≡ 4
  pub judgements : (log : List ℕ) → judgement_of (judge_of (own_of settings) (identity_of settings) log) ≡ cond (ltb longest (length log)) (at_entry 10 0) (at_entry 4 0)

module _ (settings : List ℕ) (out : settings_out (own_of settings).key (length (identity_of settings)) ≡ true) where
  call_over : (table : Table) (context : List ℕ) (room : ℕ) (e : Occurrence) (m : List ℕ) (r : Option Context) → 3 < (call_on table context settings room e m r).step.answer
  unfolding call_on call_from called
  call_over table context room e m (Some x) = out_untaken table (own_of settings) (identity_of settings) room x (happened_of e) m out
  call_over table context room e m None = omega arith

  call_untaken : (table : Table) (context : List ℕ) (room : ℕ) (e : Occurrence) (m : List ℕ) → length context ≡ 16 → Untaken context (call_of table context settings room e m)
  unfolding call_of
  call_untaken table context room e m l =
      let o : 3 < (call_of table context settings room e m).step.answer = call_over table context room e m (context_of context) in
      let k = call_keeps table context settings room e m l in
      record { answer = o; kept = k.context (λ z. omega (arith, o, z)); still = k.still (λ z. omega (arith, o, z)); silent = k.silent (λ z. omega (arith, o, z)) (λ z. omega (arith, o, z)) }

  call_four : (table : Table) (context : List ℕ) (x : Context) (room : ℕ) (e : Occurrence) (m : List ℕ) → context_of context ≡ Some x → fit_of table x ≡ true → 255 ≤ room
      → eqb e.number 18 && ltb 251 (length m) ≡ false → (call_of table context settings room e m).step.answer ≡ 4
  unfolding call_of call_on call_from called
  call_four table context x room e m i fit big short = rw (i, out_four table (own_of settings) (identity_of settings) room x (happened_of e) m out fit big short)

  -- Such are settings out of range: a key number over 7, an identity of 0 or over 8 octets.
  pub out_refused : AllRefused settings
  unfolding judgement_of
  out_refused = record {
    steps = call_untaken;
    four = call_four;
    judgements = λ log. rw (out_unjudged (own_of settings) (identity_of settings) log out) (choice (ltb longest (length log)));
  }
    where
      choice : (b : Bool) → judgement_of (cond b TooLong OutOfRange) ≡ cond b (at_entry 10 0) (at_entry 4 0)
      choice true = refl
      choice false = refl

-- What a host's settings are before any file was read.
abbrev pub zeros : List ℕ
zeros = replicate 21 0

pub zeros-refused : AllRefused zeros
unfolding own_of run_of settings_out
zeros-refused = out_refused zeros refl

-- "and no default stands in": a file that is refused leaves the zeros as they are.
pub no_default : (file settings : List ℕ) (r : SettingsRead) → r ≡ settings_shown (settings_of file) → settings ≡ kept_octets zeros (settings_of file) → (r.answer ≡ 0 → ⊥)
    → AllRefused settings
no_default file settings r told kept refused = rw ((file_refused file zeros settings r told kept refused).kept) zeros-refused
