-- "A log our recorder wrote from true steps is always accepted": on the bytes that the recorder leaves.
use Prim.Native.Nat.{ℕ, ◌+◌, ◌≤◌, ◌<◌}
use mathlib.Core.Path.{◌≡◌, refl, sym, ap, ◌∙◌}
use mathlib.Core.Bool.{Bool, true, false, cond}
use Rattle.std.specs.Prelude.{Some, Ok}
use mathlib.Core.List.{List, [], ◌∷◌, ◌++◌, append_assoc, append-nil}
use native.Mathlib.Omega.{arith}
use native.Mathlib.Nat.{zero-add}
use lib.Dec.{eqb}
use lib.ListN.{length, take}
use lib.Seq.{length-take-le}
use Rattle.context.specs.declared.Context.{Context}
use Rattle.message.specs.declared.Own.{Own}
use Rattle.step_arguments.specs.Arguments.{settings_out}
use Rattle.version.specs.declared.Table.{Table}
use Rattle.version.specs.declared.Table.TheVariants.{First, Second, Third, Group}
use Rattle.version.specs.Version.{version_of, table_of, longest}
use Rattle.version.proofs.Back.{table-number}
use Rattle.version.proofs.Tables.{number_small}
use Rattle.septets.specs.Number.{grouped, groups, groups_at, joined, number_at}
use Rattle.septets.proofs.Meaning.{number-reads}
use Rattle.log_data.specs.Reading.{carries_call}
use Rattle.log_entry.specs.Layout.{Meant, ranged, kept, version_bytes, entries as layout, whole}
use Rattle.log_entry.proofs.ReadBack.{kept-written, kept-ranged}
use Rattle.recorder.specs.Recording.{Records, Begins as LogBegins, so_far}
use Rattle.recorder.proofs.Growth.{grown, length-kept, log_grows, whole_grows, begun-log}
use Rattle.judge_laws.specs.Steps.{Steps}
use Rattle.judge_laws.specs.Log.{Entry, Moment, begin, next, Explains}
use Rattle.judge_laws.specs.Timers.{Interval, Within}
use Rattle.judge_laws.specs.Judge.{judge, judge_from}
use Rattle.judge_laws.specs.Reading.{as_log, entries, entries_in, written as written_by, AllFine}
use Rattle.judge_laws.specs.TwoTimers.{two_timers, lengths_with, BothInRange, range, told, judge_two}
use Rattle.judge_laws.specs.Recorded.{Move, entry_of, recorded, MadeInTime}
use Rattle.judge_laws.proofs.TwoTimers.{two_timers_laws}
use Rattle.judge_laws.proofs.Complete.{recorded-explained, written-accepted}
use Rattle.verdict.specs.declared.Judged.TheVariants.{Accepted}
use Rattle.verdict.specs.Table.{steps, joining, invitation, unknowns, recordable}
use Rattle.verdict.specs.Entries.{carried_by, meant_by, carried_entry, writer}
use Rattle.verdict.specs.Judge.{window_of, invitation_told, version_judged, judged_of, judge_of}
use Rattle.verdict.specs.Demand.{Begins}
use Rattle.verdict.specs.Host.{Recording}
use Rattle.verdict.proofs.Laws.{steps_laws}
use Rattle.verdict.proofs.Kept.{still}
use Rattle.verdict.proofs.Carried.{only_carried}
use Rattle.verdict.proofs.Demand.{judged-begins}

kept_twice : (m : Meant) → kept (kept m) ≡ kept m
unfolding kept
kept_twice m = go (carries_call m.event) (eqb m.event 18) refl refl
  where
    go : (c r : Bool) → carries_call m.event ≡ c → eqb m.event 18 ≡ r → kept (kept m) ≡ kept m
    go true true p q = rw (p, q)
    go true false p q = rw (p, q)
    go false true p q = rw (p, q)
    go false false p q = rw (p, q)

module _ (table : Table) (own : Own) (identity : List ℕ) where
  abbrev 𝓢 : Steps
  𝓢 = steps table own identity

  -- ---- what a log keeps of entries

  abbrev pub carried_all : List (Entry 𝓢) → List (Entry 𝓢)
  carried_all [] = []
  carried_all (e ∷ es) = carried_entry table own identity e ∷ carried_all es

  abbrev pub meant_all : List (Entry 𝓢) → List Meant
  meant_all [] = []
  meant_all (e ∷ es) = meant_by table own identity e ∷ meant_all es

  carried-count : (es : List (Entry 𝓢)) → length (carried_all es) ≡ length es
  carried-count [] = refl
  carried-count (e ∷ es) = rw (carried-count es)

  meant-carried : (e : Entry 𝓢) → meant_by table own identity (carried_entry table own identity e) ≡ kept (meant_by table own identity e)
  unfolding kept carried_by
  meant-carried e = go (carries_call e.event.happened.number) refl
    where
      go : (c : Bool) → carries_call e.event.happened.number ≡ c
          → meant_by table own identity (carried_entry table own identity e) ≡ kept (meant_by table own identity e)
      go true c = rw c
      go false c = rw c

  pub carried-written : (es : List (Entry 𝓢)) → written_by (writer table own identity) (carried_all es) ≡ layout table (meant_all es)
  unfolding layout
  carried-written [] = refl
  carried-written (e ∷ es) = rw (meant-carried e, kept-written table (meant_by table own identity e), carried-written es)

  abbrev pub AllRanged : List (Entry 𝓢) → Type 0
  AllRanged [] = Unit {0}
  AllRanged (e ∷ es) = (ranged table (meant_by table own identity e) ≡ true) × AllRanged es

  pub carried_fine : (es : List (Entry 𝓢)) → AllRanged es → AllFine (writer table own identity) (carried_all es)
  carried_fine [] r = tt
  carried_fine (e ∷ es) r = (
    record {
      in_range = rw (meant-carried e) (kept-ranged table (meant_by table own identity e) ∙ r.0);
      carried = rw (meant-carried e) (kept_twice (meant_by table own identity e));
    },
    carried_fine es r.1,
  )

  -- They are explained as the entries are.
  carried-explained : (lengths : ℕ → ℕ) (es : List (Entry 𝓢)) (s : Moment 𝓢) → Explains 𝓢 lengths s (as_log es) → Explains 𝓢 lengths s (as_log (carried_all es))
  unfolding carried_by
  carried-explained lengths [] s x = tt
  carried-explained lengths (e ∷ es) s x = (
    record { timed = record { within = x.0.timed.within; exact = x.0.timed.exact }; claimed = rw (only_carried table own identity s.context e.event) x.0.claimed },
    rw (only_carried table own identity s.context e.event) (carried-explained lengths es (next 𝓢 s e) x.1),
  )

  -- ---- what the recorder leaves

  -- What the bytes used are to entries recorded so far, such that one entry more makes them the bytes of one more: nothing at first and then a log, or a
  -- log from the beginning.
  abbrev Growing : (List Meant → List ℕ) → Type 0
  Growing so =
      (past : List Meant) (e : Meant) (used : ℕ) (before after : List ℕ) (total : ℕ) → take used before ≡ so past
      → Records table e used before after (Ok total) → take total after ≡ so (past ++ (e ∷ []))

  pub record Grows (so : List Meant → List ℕ) (past : List Meant) (es : List (Entry 𝓢)) (used : ℕ) (before after : List ℕ) (total : ℕ) : Type 0 where
    pub bytes : take total after ≡ so (past ++ meant_all es)
    pub in_range : AllRanged es
    pub inside : total ≤ length after
    pub short : used ≤ longest → total ≤ longest

  recording_grows : (so : List Meant → List ℕ) → Growing so → (ms : List (Move 𝓢)) (x : Context) (waited used : ℕ) (before after : List ℕ) (total : ℕ) (past : List Meant) → take used before ≡ so past
      → used ≤ length before → Recording table own identity ms x waited used before after total
      → Grows so past (recorded 𝓢 (recordable table own identity) ms x waited) used before after total
  recording_grows so growing [] x waited used before after total past q h r =
      record { bytes = rw (r.0, r.1, append-nil) q; in_range = tt; inside = rw (r.0, r.1) h; short = λ k. rw r.1 k }
  recording_grows so growing (m ∷ ms) x waited used before after total past q h r =
      go (recordable table own identity x m.event) (entry_of 𝓢 x waited m) (recorded 𝓢 (recordable table own identity) ms (𝓢.after x m.event) 0)
      (recorded 𝓢 (recordable table own identity) ms (𝓢.after x m.event) (waited + m.wait))
      (λ between so_far later p g k. recording_grows so growing ms (𝓢.after x m.event) 0 so_far between after total later p g k)
      (λ k. recording_grows so growing ms (𝓢.after x m.event) (waited + m.wait) used before after total past q h k) r
    where
      go : (b : Bool) (e : Entry 𝓢) (es fs : List (Entry 𝓢))
          → ((between : List ℕ) (so_far : ℕ) (later : List Meant) → take so_far between ≡ so later → so_far ≤ length between
          → Recording table own identity ms (𝓢.after x m.event) 0 so_far between after total → Grows so later es so_far between after total)
          → (Recording table own identity ms (𝓢.after x m.event) (waited + m.wait) used before after total → Grows so past fs used before after total)
          → cond b
          ((between : List ℕ) × (so_far : ℕ) × Records table (meant_by table own identity e) used before between (Ok so_far)
          × Recording table own identity ms (𝓢.after x m.event) 0 so_far between after total)
          (Recording table own identity ms (𝓢.after x m.event) (waited + m.wait) used before after total)
          → Grows so past (cond b (e ∷ es) fs) used before after total
      go false e es fs yes_way no_way p = no_way p
      go true e es fs yes_way no_way (between, so_far, p, rest) =
          let g = grown table (meant_by table own identity e) used before between so_far p in
          let l : length between ≡ length before = length-kept table (meant_by table own identity e) used before between so_far p in
          let w = yes_way between so_far (past ++ (meant_by table own identity e ∷ [])) (growing past (meant_by table own identity e) used before between so_far q p) (omega (arith, g.inside)) rest in
          record {
            bytes = w.bytes ∙ ap so (simp append_assoc);
            in_range = (g.in_range, w.in_range);
            inside = w.inside;
            short = λ k. w.short g.short;
          }

-- ---- the promise

pub version-reads : (table : Table) (rest : List ℕ) → number_at (version_bytes table ++ rest) 0 ≡ Some (version_of table, length (version_bytes table))
version-reads table rest =
    number-reads (version_of table) (omega (arith, number_small table)) [] rest ∙ ap (λ (next : ℕ). Some (version_of table, next)) (zero-add (length (version_bytes table)))

-- "A log our recorder wrote from true steps is always accepted."
-- A host makes steps from a cleared context on, under settings in range, one joining timer from 10,000 to 30,000 ms and one invitation timer from 1,000 to 600,000 ms,
-- each within the time rules. The recorder is called after every step answered 0 to 3 and takes each entry. Then the bytes used are accepted: every entry, with each
-- timer between its least and its greatest.
module _ (table : Table) (own : Own) (identity : List ℕ) (settings : settings_out own.key (length identity) ≡ false) (T I : ℕ) (in_range : BothInRange unknowns T I)
    (ms : List (Move (steps table own identity))) (made : MadeInTime (steps table own identity) (recordable table own identity) (lengths_with unknowns T I) ms (begin (steps table own identity)) 0) where
  abbrev 𝓢₁ : Steps
  𝓢₁ = steps table own identity

  -- The entries that are recorded.
  abbrev pub recorded_entries : List (Entry 𝓢₁)
  recorded_entries = recorded 𝓢₁ (recordable table own identity) ms 𝓢₁.cleared 0

  abbrev pub AcceptedWith : List ℕ → Type 0
  AcceptedWith log = (i j : Interval) × (judge_of own identity log ≡ Accepted (length recorded_entries) (window_of i) (invitation_told table j)) × Within T i × Within I j

  whole-accepted : (log : List ℕ) → log ≡ whole table (meant_all table own identity recorded_entries) → length log ≤ longest → AllRanged table own identity recorded_entries
      → AcceptedWith log
  unfolding judge_two whole
  whole-accepted log is short ranges =
      let es : List (Entry 𝓢₁) = recorded_entries in
      let bytes : log ≡ version_bytes table ++ written_by (writer table own identity) (carried_all table own identity es)
      = is ∙ ap (λ (r : List ℕ). version_bytes table ++ r) (sym (carried-written table own identity es)) in
      let b : Begins own identity log = record {
        tested = record { short = short; settings = settings };
        number = version_of table;
        place = length (version_bytes table);
        version = ap (λ (s : List ℕ). number_at s 0) bytes ∙ version-reads table (written_by (writer table own identity) (carried_all table own identity es));
        table = table;
        known = table-number table;
      } in
      let x = carried-explained table own identity (lengths_with unknowns T I) es (begin 𝓢₁)
      (recorded-explained 𝓢₁ (recordable table own identity) (still table own identity) (lengths_with unknowns T I) ms (begin 𝓢₁) 0 made) in
      let w = written-accepted 𝓢₁ (two_timers unknowns) (steps_laws table own identity) (two_timers_laws unknowns (omega arith, omega arith)) (writer table own identity)
      (T, (I, tt)) (in_range.0, (in_range.1, tt)) (carried_all table own identity es) (carried_fine table own identity es ranges) x (version_bytes table) log bytes in
      let n : length (carried_all table own identity es) ≡ length es = carried-count table own identity es in (
        w.0.0,
        w.0.1.0,
        judged-begins own identity log b ∙ ap (judged_of table) (ap told w.1) ∙ ap (λ (k : ℕ). Accepted k (window_of w.0.0) (invitation_told table w.0.1.0)) n,
        w.2.0,
        w.2.1.0,
      )

  -- From nothing used on: the bytes used, if there are any.
  module _ (before after : List ℕ) (total : ℕ) (recording : Recording table own identity ms 𝓢₁.cleared 0 0 before after total) (some : 0 < total) where
    grows_from_nothing : Grows table own identity (so_far table) [] recorded_entries 0 before after total
    unfolding so_far
    grows_from_nothing = recording_grows table own identity (so_far table) (log_grows table) ms 𝓢₁.cleared 0 0 before after total [] refl (omega arith) recording

    pub recorder_accepted : AcceptedWith (take total after)
    unfolding so_far
    recorder_accepted =
        let g = grows_from_nothing in
        let used : length (take total after) ≡ total = length-take-le total after g.inside in
        whole-accepted (take total after) (go recorded_entries used g.bytes) (rw used (g.short (omega arith))) g.in_range
      where
        go : (fs : List (Entry 𝓢₁)) → length (take total after) ≡ total → take total after ≡ so_far table (meant_all table own identity fs)
            → take total after ≡ whole table (meant_all table own identity fs)
        go [] u q = let z : total ≡ 0 = sym u ∙ ap length q in absurd (omega (arith, some))
        go (f ∷ fs) u q = q

  -- From a log that the recorder began on: the bytes used, whatever steps were made.
  module _ (first before after : List ℕ) (used total : ℕ) (begun : LogBegins table first before (Ok used))
      (recording : Recording table own identity ms 𝓢₁.cleared 0 used before after total) where
    pub begun-accepted : AcceptedWith (take total after)
    begun-accepted =
        let b = begun-log table first before used begun in
        let g = recording_grows table own identity (whole table) (whole_grows table) ms 𝓢₁.cleared 0 used before after total [] b.used b.inside recording in
        let u : length (take total after) ≡ total = length-take-le total after g.inside in
        whole-accepted (take total after) g.bytes (rw u (g.short b.short)) g.in_range

-- A log that the recorder began, with no entry: it is accepted with 0 entries, and every timer is left.
pub begun-alone : (table : Table) (own : Own) (identity : List ℕ) → settings_out own.key (length identity) ≡ false → (before after : List ℕ) (used : ℕ)
    → LogBegins table before after (Ok used) → judge_of own identity (take used after) ≡ Accepted 0 (window_of (range joining)) (invitation_told table (range invitation))
unfolding whole layout version_of grouped groups judge_of version_judged table_of number_at groups_at joined entries entries_in judge_two judge judge_from invitation_told
begun-alone First own identity settings before after used begun = rw ((begun-log First before after used begun).used, settings) refl
begun-alone Second own identity settings before after used begun = rw ((begun-log Second before after used begun).used, settings) refl
begun-alone Third own identity settings before after used begun = rw ((begun-log Third before after used begun).used, settings) refl
begun-alone Group own identity settings before after used begun = rw ((begun-log Group before after used begun).used, settings) refl
