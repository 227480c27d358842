-- A log is well formed exactly if it is the version and entries of the layout in range, written one behind the other.
use Prim.Native.Nat.{ℕ, zero, suc}
use mathlib.Core.Path.{◌≡◌, refl, sym, ap, subst, ◌∙◌}
use mathlib.Core.Bool.{Bool, true, false, cond}
use Rattle.std.specs.Prelude.{Result, Ok, Err}
use mathlib.Core.List.{List, [], ◌∷◌, ◌++◌}
use mathlib.Core.Logic.{◌↔◌}
use native.Mathlib.Nat.{zero-add}
use lib.Dec.{leb}
use lib.ListN.{length, drop, take-append-drop, drop_of_length-le}
use lib.Seq.{drop-drop}
use borrow.Author.Tests.{leb-true}
use Rattle.version.specs.declared.Table.{Table}
use Rattle.message.specs.declared.Own.{Own}
use Rattle.septets.specs.Number.{number_at}
use Rattle.septets.proofs.Meaning.{Octets, Shortest, Exact, number-exact}
use Rattle.log_entry.specs.Layout.{Meant, written, version_bytes, entries as layout, whole}
use Rattle.log_entry.specs.Reading.{entry_at, meant}
use Rattle.log_entry.proofs.Exact.{EntryExact, entry-exact}
use Rattle.judge_laws.specs.Log.{Log, done, torn, WellFormed, Entry}
use Rattle.judge_laws.specs.Reading.{on_read, entries_in, entries, written as written_by}
use Rattle.judge_laws.proofs.Reading.{entries-written}
use Rattle.judge_laws.proofs.Complete.{as_log_well_formed}
use Rattle.verdict.specs.Table.{steps}
use Rattle.verdict.specs.Entries.{entry_meant, read_of, reader, writer}
use Rattle.verdict.specs.Formed.{Readable, AllInRange, Laid}
use Rattle.verdict.proofs.Recorder.{AllRanged, carried_all, meant_all, carried-written, carried_fine, version-reads}
use Rattle.log_entry.specs.declared.Entry.{Entry as LogEntry}

module _ (table : Table) (own : Own) (identity s : List ℕ) where
  -- ---- what is read is laid out

  module _ (o : Octets s) where
    -- The octets from a place on are those of entries in range.
    pub record LaidFrom (at : ℕ) : Type 0 where
      pub laid : List Meant
      pub in_range : AllInRange table laid
      pub bytes : drop at s ≡ layout table laid

    laid_end : (at : ℕ) → leb (length s) at ≡ true → LaidFrom at
    unfolding layout
    laid_end at t = record { laid = []; in_range = tt; bytes = drop_of_length-le s {i = at} (leb-true (length s) at t) }

    -- One entry, and the entries behind it.
    by_read : (most at : ℕ) → ((place : ℕ) → WellFormed (entries_in (reader table own identity) most s place) → LaidFrom place)
        → (f : Result (LogEntry × ℕ) ℕ) → EntryExact table s o at f
        → WellFormed (on_read (read_of table own identity s f) (λ place. entries_in (reader table own identity) most s place)) → LaidFrom at
    unfolding layout
    by_read most at more (Err place) x w = absurd w
    by_read most at more (Ok (e, next)) x w =
        let m : Meant = meant s e in
        let n : ℕ = length (written table m) in
        let l = more next w in
        let d : drop n (drop at s) ≡ layout table l.laid = drop-drop n at s ∙ ap (λ (k : ℕ). drop k s) (sym x.behind) ∙ l.bytes in
        record {
          laid = m ∷ l.laid;
          in_range = (x.in_range, l.in_range);
          bytes = sym (take-append-drop n (drop at s)) ∙ rw (x.bytes, d) refl;
        }

    entries-laid : (most at : ℕ) → WellFormed (entries_in (reader table own identity) most s at) → LaidFrom at
    unfolding entries_in
    entries-laid zero at w = go (leb (length s) at) refl w
      where
        go : (t : Bool) → leb (length s) at ≡ t → WellFormed (cond {A = Log (Entry (steps table own identity))} t done torn) → LaidFrom at
        go true t w = laid_end at t
        go false t w = absurd w
    entries-laid (suc most) at w =
        go (leb (length s) at) refl (λ place v. entries-laid most place v) w
      where
        go : (t : Bool) → leb (length s) at ≡ t → ((place : ℕ) → WellFormed (entries_in (reader table own identity) most s place) → LaidFrom place)
            → WellFormed (cond {A = Log (Entry (steps table own identity))} t done (on_read (read_of table own identity s (entry_at table s at)) (λ place. entries_in (reader table own identity) most s place))) → LaidFrom at
        go true t more w = laid_end at t
        go false t more w = by_read most at more (entry_at table s at) (entry-exact table s o at) w

    readable_laid : Readable table own identity s → Laid table s
    unfolding entries whole
    readable_laid r =
        let v : Shortest (version_bytes table) s 0 r.place = subst (Exact s 0) r.version (number-exact s 0 o) in
        let n : ℕ = length (version_bytes table) in
        let p : r.place ≡ n = v.behind ∙ zero-add n in
        let l = entries-laid (length s) r.place r.entries in
        record { laid = l.laid; in_range = l.in_range; bytes = sym (take-append-drop n s) ∙ rw (v.bytes, ← p, l.bytes) refl }

  -- ---- what is laid out is read

  abbrev as_entries : List Meant → List (Entry (steps table own identity))
  as_entries [] = []
  as_entries (m ∷ ms) = entry_meant table own identity m ∷ as_entries ms

  as_meant : (ms : List Meant) → meant_all table own identity (as_entries ms) ≡ ms
  as_meant [] = refl
  as_meant (m ∷ ms) = ap (λ (xs : List Meant). m ∷ xs) (as_meant ms)

  as_ranged : (ms : List Meant) → AllInRange table ms → AllRanged table own identity (as_entries ms)
  as_ranged [] r = tt
  as_ranged (m ∷ ms) r = (r.0, as_ranged ms r.1)

  laid_readable : Laid table s → Readable table own identity s
  unfolding whole
  laid_readable l =
      let es : List (Entry (steps table own identity)) = as_entries l.laid in
      let q : s ≡ version_bytes table ++ written_by (writer table own identity) (carried_all table own identity es)
      = l.bytes ∙ ap (λ (xs : List ℕ). version_bytes table ++ xs) (ap (layout table) (sym (as_meant l.laid)) ∙ sym (carried-written table own identity es)) in
      let w = entries-written (writer table own identity) (carried_all table own identity es) (carried_fine table own identity es (as_ranged l.laid l.in_range)) (version_bytes table) s q in
      record {
        place = length (version_bytes table);
        version = ap (λ (xs : List ℕ). number_at xs 0) q ∙ version-reads table (written_by (writer table own identity) (carried_all table own identity es));
        entries = rw w (as_log_well_formed (carried_all table own identity es));
      }

  -- "A log is the number 1, then entries: .. A number outside its range, or an end inside an entry, is unreadable"
  pub well_formed_exactly : Octets s → Readable table own identity s ↔ Laid table s
  well_formed_exactly o = (readable_laid o, laid_readable)
