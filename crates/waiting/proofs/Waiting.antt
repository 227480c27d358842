-- Every accepted broadcast log keeps the promise: each limit by itself, and all of them from the judge's verdict on bytes.
use Prim.Native.Nat.{ℕ}
use mathlib.Core.Path.{◌≡◌, sym, ap, subst, ◌∙◌}
use mathlib.Core.Bool.{Bool, true, false}
use mathlib.Core.List.{List, [], ◌∷◌, ◌++◌, append_assoc}
use native.Mathlib.Omega.{arith}
use lib.ListN.{length}
use Rattle.octets.proofs.Choice.{never}
use Rattle.codes.specs.declared.state.State.{State}
use Rattle.codes.specs.declared.state.State.TheVariants.{U0p, U3, U4, U5, U6}
use Rattle.codes.specs.declared.protocol.Protocol.TheVariants.{Broadcast}
use Rattle.timer.specs.declared.Timer.{Timer}
use Rattle.timer.specs.declared.Timer.TheVariants.{MmEst, Term, ConnReq, NoChannel, Pres}
use Rattle.timer.specs.declared.Window.{Window}
use Rattle.timer.specs.Timers.{timer_number, length_of}
use Rattle.context.specs.declared.Context.{Context}
use Rattle.context.specs.States.{number_of}
use Rattle.fitness.proofs.Tables.{cleared-fit}
use Rattle.message.specs.declared.Own.{Own}
use Rattle.step_arguments.specs.Arguments.{settings_out}
use Rattle.version.specs.declared.Table.{Table}
use Rattle.version.specs.declared.Table.TheVariants.{First, Second, Third, Group}
use Rattle.version.specs.Version.{protocol_of, version_of}
use Rattle.judge_laws.specs.Log.{Log, Entry, begin}
use Rattle.version.proofs.Back.{number-table}
use Rattle.judge_laws.specs.Timers.{Interval}
use Rattle.judge_laws.specs.Verdict.{Verdict, accepted, unreadable, unexplained}
use Rattle.judge_laws.specs.TwoTimers.{lengths_with, ExplainedBy, AcceptedBetween, Tells}
use Rattle.verdict.specs.declared.Invitation.{Invitation}
use Rattle.verdict.specs.declared.Invitation.TheVariants.{Untold, Told}
use Rattle.verdict.specs.declared.Judged.{Judged}
use Rattle.verdict.specs.declared.Judged.TheVariants.{Accepted, Unreadable, Unexplained, TooLong, OutOfRange}
use Rattle.verdict.specs.Judge.{window_of, invitation_told, judged_of, answer_number}
use Rattle.verdict.specs.Demand.{Begins, behind}
use Rattle.verdict.proofs.Demand.{verdict_at, tells, judged-begins}
use Rattle.verdict.specs.Table.{steps, unknowns, tells_invitation}
use Rattle.waiting.specs.Visits.{Noted, noted_from, Each, In, Visit, NoChannel as Unanswered}
use Rattle.waiting.specs.Waiting.{AtMost, InU0p, InU4, InU6, InU5, InU3, NobodyWaits, Promise}
use Rattle.waiting.proofs.Run.{stretch}
use Rattle.waiting.proofs.Always.{Always, mm_est_in_u0p, conn_req_in_u4, term_in_u5_second, term_in_u5_third, pres_in_u3, one-run}
use Rattle.waiting.proofs.Channel.{is_broadcast, Lost, Loses, Lacks, one_loss}

-- ---- entries of a visit

each-behind : (P : Noted → Type 0) (a b : List Noted) → Each P (a ++ b) → Each P b
each-behind P [] b e = e
each-behind P (n ∷ a) b e = each-behind P a b e.1

each_both : (P Q : Noted → Type 0) (a : List Noted) → Each P a → Each Q a → Each (λ n. P n × Q n) a
each_both P Q [] p q = tt
each_both P Q (n ∷ a) p q = ((p.0, q.0), each_both P Q a p.1 q.1)

-- ---- the limits, of a log that timers of t and u milliseconds explain

module _ (table : Table) (own : Own) (identity : List ℕ) (log : Log (Entry (steps table own identity))) (t u : ℕ)
    (x : ExplainedBy (steps table own identity) unknowns log t u) where
  abbrev entries : List Noted
  entries = noted_from table own identity 0 log

  -- A state in which a timer always runs is left when it ends.
  always-within : (state : State) (k : Timer) → Always table state k → (timer_number k ≡ 0 → ⊥) → AtMost (lengths_with unknowns t u (timer_number k)) state entries
  always-within state k always some visit =
      stretch table own identity (timer_number k) some (λ (x : Context). number_of x.state ≡ number_of state) (λ event s. s ≡ number_of state) (λ event s. s ≡ number_of state)
      (one-run table state k always own identity) (lengths_with unknowns t u) log visit.before (begin (steps table own identity)) visit.enters visit.stays visit.next visit.behind
      (cleared-fit table) (omega arith) x visit.split visit.there.0 visit.there.1

  pub in_u0p : InU0p entries
  unfolding length_of
  in_u0p visit = always-within U0p MmEst (mm_est_in_u0p table) (λ z. omega (arith, z)) visit

  pub in_u4 : InU4 t entries
  in_u4 visit = always-within U4 ConnReq (conn_req_in_u4 table) (λ z. omega (arith, z)) visit

  -- From any "no channel" of a visit to U6 that no "channel available" followed T_no channel runs.
  module _ (broadcast : protocol_of table ≡ Broadcast) (settings : settings_out own.key (length identity) ≡ false) where
    lost-there : (visit : Visit U6 entries) (channel : Unanswered visit) → Each (In U6) (channel.lost ∷ channel.later)
    lost-there visit channel = each-behind (In U6) channel.earlier (channel.lost ∷ channel.later) (subst (Each (In U6)) channel.split visit.there)

    lost-split : (visit : Visit U6 entries) (channel : Unanswered visit)
        → entries ≡ (visit.before ++ channel.earlier) ++ (channel.lost ∷ (channel.later ++ (visit.next ∷ visit.behind)))
    lost-split visit channel =
        let rest = visit.next ∷ visit.behind in
        visit.split ∙ ap (λ (l : List Noted). visit.before ++ (l ++ rest)) channel.split
        ∙ ap (λ (l : List Noted). visit.before ++ l) (append_assoc channel.earlier (channel.lost ∷ channel.later) rest)
        ∙ sym (append_assoc visit.before channel.earlier (channel.lost ∷ (channel.later ++ rest)))

    pub in_u6 : InU6 entries
    unfolding length_of
    in_u6 visit channel =
        stretch table own identity (timer_number NoChannel) (λ z. omega (arith, z)) Lost Loses Lacks (one_loss table broadcast own identity settings) (lengths_with unknowns t u) log
        (visit.before ++ channel.earlier) (begin (steps table own identity)) channel.lost channel.later visit.next visit.behind (cleared-fit table) (omega arith) x
        (lost-split visit channel) (channel.no_channel, (lost-there visit channel).0)
        (each_both (In U6) (λ n. n.event ≡ 13 → ⊥) channel.later (lost-there visit channel).1 channel.none-available)

-- ---- the limits that go by the version

-- From version 2 on T_term always runs in U5.
pub in_u5 : (table : Table) → protocol_of table ≡ Broadcast → (own : Own) (identity : List ℕ) (log : Log (Entry (steps table own identity))) (t u : ℕ)
    → ExplainedBy (steps table own identity) unknowns log t u → InU5 (version_of table) (noted_from table own identity 0 log)
unfolding length_of version_of protocol_of
in_u5 First b own identity log t u x later = absurd (omega arith)
in_u5 Second b own identity log t u x later = always-within Second own identity log t u x U5 Term term_in_u5_second (λ z. omega (arith, z))
in_u5 Third b own identity log t u x later = always-within Third own identity log t u x U5 Term term_in_u5_third (λ z. omega (arith, z))
in_u5 Group b own identity log t u x later = never (ap is_broadcast b)

abbrev is_told : Invitation → Bool
is_told Untold = false
is_told (Told w) = true

abbrev least_told : Invitation → ℕ
least_told Untold = 0
least_told (Told w) = w.least

-- An invitation timer is told by the third table alone, in which it always runs in U3.
pub in_u3 : (table : Table) (own : Own) (identity : List ℕ) (log : Log (Entry (steps table own identity))) (t : ℕ) (j : Interval)
    → ExplainedBy (steps table own identity) unknowns log t j.least → InU3 (invitation_told table j) (noted_from table own identity 0 log)
unfolding invitation_told tells_invitation
in_u3 First own identity log t j x reported e = never (ap is_told e)
in_u3 Second own identity log t j x reported e = never (ap is_told e)
in_u3 Third own identity log t j x reported e =
    subst (λ (least : ℕ). AtMost least U3 (noted_from Third own identity 0 log)) (ap least_told e) (always-within Third own identity log t j.least x U3 Pres pres_in_u3 (λ z. omega (arith, z)))
in_u3 Group own identity log t j x reported e = never (ap is_told e)

-- ---- from the verdict on bytes

-- The timers that an answer reports.
abbrev joining_of : Judged → Window
joining_of (Accepted n joining invitation) = joining
joining_of (Unreadable n) = record { least = 0; greatest = 0 }
joining_of (Unexplained n) = record { least = 0; greatest = 0 }
joining_of TooLong = record { least = 0; greatest = 0 }
joining_of OutOfRange = record { least = 0; greatest = 0 }

abbrev invitation_of : Judged → Invitation
invitation_of (Accepted n joining invitation) = invitation
invitation_of (Unreadable n) = Untold
invitation_of (Unexplained n) = Untold
invitation_of TooLong = Untold
invitation_of OutOfRange = Untold

module _ (own : Own) (identity s : List ℕ) (b : Begins own identity s) (broadcast : protocol_of b.table ≡ Broadcast) where
  abbrev noted : List Noted
  noted = noted_from b.table own identity 0 (behind own identity s b)

  accepted_waits : (n : ℕ) (i j : Interval) → AcceptedBetween (steps b.table own identity) unknowns (behind own identity s b) n i j
      → NobodyWaits b.number (window_of i) (invitation_told b.table j) noted
  accepted_waits n i j p =
      let x : ExplainedBy (steps b.table own identity) unknowns (behind own identity s b) i.least j.least
      = (p.between i.least j.least (omega arith, p.first_ordered) (omega arith, p.second_ordered)).1 in
      let log = behind own identity s b in
      record {
        in_u0p = in_u0p b.table own identity log i.least j.least x;
        in_u4 = in_u4 b.table own identity log i.least j.least x;
        in_u6 = in_u6 b.table own identity log i.least j.least x broadcast b.tested.settings;
        in_u5 = subst (λ (v : ℕ). InU5 v noted) (sym (number-table b.number b.table b.known)) (in_u5 b.table broadcast own identity log i.least j.least x);
        in_u3 = in_u3 b.table own identity log i.least j x;
      }

  -- By cases on the answer: it reports what the verdict left.
  judged_waits : (v : Verdict (Interval × Interval)) → Tells (steps b.table own identity) unknowns (behind own identity s b) v
      → (n : ℕ) (joining : Window) (invitation : Invitation) → judged_of b.table v ≡ Accepted n joining invitation → NobodyWaits b.number joining invitation noted
  judged_waits (accepted count left) p n joining invitation e =
      subst (λ (w : Window). NobodyWaits b.number w invitation noted) (ap joining_of e)
      (subst (λ (i : Invitation). NobodyWaits b.number (window_of left.0) i noted) (ap invitation_of e) (accepted_waits count left.0 left.1 p))
  judged_waits (unreadable count) p n joining invitation e = absurd (omega (arith, ap answer_number e))
  judged_waits (unexplained count) p n joining invitation e = absurd (omega (arith, ap answer_number e))

-- Nobody waits longer than the timers say.
pub nobody_waits : Promise
nobody_waits own identity s n joining invitation e b broadcast =
    judged_waits own identity s b broadcast (verdict_at own identity s b.table b.place) (tells own identity s b.table b.place) n joining invitation
    (sym (judged-begins own identity s b) ∙ e)
