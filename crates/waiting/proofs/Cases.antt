-- For each limit a log that reaches it to the millisecond, which is accepted, and the same log with a millisecond more, which is refused; and logs that are accepted
-- although they break a stronger promise. Written by hand from the papers, answered by computing the definitions. proofs/Sharp draws the conclusion.
use Prim.Native.Nat.{ℕ, ◌+◌}
use mathlib.Core.Path.{◌≡◌, refl}
use mathlib.Core.List.{List, [], ◌∷◌, ◌++◌}
use native.Mathlib.Omega.{arith}
use Rattle.codes.specs.Attributes.{parameters_number, weighs}
use Rattle.codes.specs.Protocol.{discriminator}
use Rattle.codes.specs.declared.state.State.{State}
use Rattle.codes.specs.declared.state.State.TheVariants.{U0p, U3, U4, U5, U6}
use Rattle.context.specs.Remembered.{remembering, returning}
use Rattle.context.specs.Context.{start_row, set_row, entering, cleared}
use Rattle.context.specs.Talk.{flag_in, flag_by, flag_of}
use Rattle.element.specs.Counted.{counted_at}
use Rattle.element.specs.Elements.{within, next_element, element_among, element_from}
use Rattle.fitness.specs.Fitness.{consistent_by, timers_fit_by, remembered_fit_by, chooser_fit_by, pending_fit_by, talk_fit_by, is_cleared, fit_by}
use Rattle.fitness.specs.Tables.{fitness_of}
use Rattle.timer.specs.declared.Window.{Window}
use Rattle.timer.specs.Timers.{running_among, expiry_of, length_of, with_timer}
use Rattle.transitions.specs.Table.{step_table, heard_in, happened_in, decided_in, decided_by}
use Rattle.call.specs.Due.{settled_by}
use Rattle.call.specs.Events.{seen_message, seen_of}
use Rattle.call.specs.Talk.{adopted, originating, noted, awaiting_after, sent_in, flushed}
use Rattle.call.specs.Step.{parameters_after, value_after, reference_after, afterwards, carried_out, step_by}
use Rattle.message.specs.declared.Own.{Own}
use Rattle.message.specs.Content.{lies}
use Rattle.message.specs.Reading.{whole_of, termination_reject_of, body_of, read_message}
use Rattle.message.specs.Tables.{table, type_of, head_of, written}
use Rattle.reply.specs.Reply.{sent, hearing, row_of, own_of, status_due, request_due, reply_of}
use Rattle.received.specs.Received.{same_octets, transaction_is, awaited_is, transaction_fits, cause_in, type_cause, asked_of}
use Rattle.received.specs.Due.{understood_due, reading_due, due_of}
use Rattle.step_arguments.specs.Arguments.{settings_out, out_of_range, argument_refusal}
use Rattle.radio.specs.Step.{event_of, told_due, due_to, reacted_to, fitness_refusal, refusal_of, step_of}
use Rattle.septets.specs.Number.{joined, groups_at, number_at, up_to}
use Rattle.log_data.specs.Reading.{carries_call, call_at, received_at, data_at}
use Rattle.version.specs.declared.Table.{Table}
use Rattle.version.specs.declared.Table.TheVariants.{First, Second, Third}
use Rattle.version.specs.Version.{table_of, has_event, greatest_state, greatest_actions, protocol_of}
use Rattle.log_field.specs.Reading.{run_at}
use Rattle.log_claim.specs.Reading.{claim_at}
use Rattle.log_entry.specs.Reading.{rest_at, entry_at}
use Rattle.judge_laws.specs.Judge.{narrow, turn, judge_from, judge}
use Rattle.judge_laws.specs.Reading.{entries_in, entries}
use Rattle.judge_laws.specs.TwoTimers.{judge_two}
use Rattle.verdict.specs.declared.Invitation.TheVariants.{Untold, Told}
use Rattle.verdict.specs.declared.Judged.TheVariants.{Accepted, Unexplained}
use Rattle.verdict.specs.Table.{tells_invitation, agree}
use Rattle.verdict.specs.Judge.{invitation_told, version_judged, judge_of, entries_at}
use Rattle.waiting.specs.Visits.{Noted, noted_from, Visit, NoChannel}

-- ---- entries

-- Settings in range; only what SETUP and TERMINATION REQUEST carry is sent, which no setting changes.
abbrev pub own : Own
own = record { key = 5; classmark = record { first = 0x33; second = 0x19; third = 0x82 } }

abbrev pub identity : List ℕ
identity = 0x08 ∷ 0x49 ∷ 0x26 ∷ 0x10 ∷ []

-- Entries, as milliseconds (0, or given in front), event, data; answer, state, parameters, actions, reply.
-- Set-up request: value 0, reference 01 02 03 04; U0.p, parameters 8 (ORIG), action 2.
abbrev set_up : List ℕ
set_up = 0x00 ∷ 0x01 ∷ 0x00 ∷ 0x01 ∷ 0x02 ∷ 0x03 ∷ 0x04 ∷ 0x00 ∷ 0x01 ∷ 0x08 ∷ 0x02 ∷ 0x00 ∷ []

-- MM establishment failed: U0.
abbrev failed : List ℕ
failed = 0x07 ∷ 0x00 ∷ 0x00 ∷ 0x00 ∷ 0x00 ∷ 0x00 ∷ []

-- MM connection established: U1, parameters 12 (ORIG, COMM), SETUP.
abbrev established : List ℕ
established = 0x00 ∷ 0x06 ∷ 0x00 ∷ 0x02 ∷ 0x0C ∷ 0x00 ∷ 0x06 ∷ 0x01 ∷ 0x32 ∷ 0x01 ∷ 0x02 ∷ 0x03 ∷ 0x04 ∷ []

-- Terminate: U5, parameters 15, TERMINATION REQUEST.
abbrev terminates : List ℕ
terminates = 0x00 ∷ 0x04 ∷ 0x00 ∷ 0x06 ∷ 0x0F ∷ 0x00 ∷ 0x06 ∷ 0x01 ∷ 0x35 ∷ 0x01 ∷ 0x02 ∷ 0x03 ∷ 0x04 ∷ []

-- TERMINATION REJECT received, acknowledged, by version 1: stays in U5, action 1.
abbrev rejected : List ℕ
rejected = 0x00 ∷ 0x12 ∷ 0x00 ∷ 0x04 ∷ 0x81 ∷ 0x36 ∷ 0x01 ∷ 0x9E ∷ 0x00 ∷ 0x06 ∷ 0x0F ∷ 0x01 ∷ 0x00 ∷ []

-- Abort detected: U0, actions 9.
abbrev aborted : List ℕ
aborted = 0x09 ∷ 0x00 ∷ 0x00 ∷ 0x00 ∷ 0x09 ∷ 0x00 ∷ []

-- Broadcast notified: value 0, reference 01 02 03 04; U3, action 1.
abbrev notified : List ℕ
notified = 0x00 ∷ 0x0A ∷ 0x00 ∷ 0x01 ∷ 0x02 ∷ 0x03 ∷ 0x04 ∷ 0x00 ∷ 0x04 ∷ 0x00 ∷ 0x01 ∷ 0x00 ∷ []

-- T_pres expires after 60,000 ms: U0, action 0.
abbrev forgotten_at60000 : List ℕ
forgotten_at60000 = 0xE0 ∷ 0xD4 ∷ 0x03 ∷ 0x13 ∷ 0x00 ∷ 0x00 ∷ 0x00 ∷ 0x00 ∷ 0x00 ∷ []

-- Join: U4, action 4.
abbrev join : List ℕ
join = 0x03 ∷ 0x00 ∷ 0x05 ∷ 0x00 ∷ 0x04 ∷ 0x00 ∷ []

-- T_conn req expires after 12,000 ms: U0, actions 9.
abbrev expires_at12000 : List ℕ
expires_at12000 = 0xE0 ∷ 0x5D ∷ 0x10 ∷ 0x00 ∷ 0x00 ∷ 0x00 ∷ 0x09 ∷ 0x00 ∷ []

-- Group receive mode entered: U6, parameters 2 (D-ATT), action 1; no channel, and channel available: stay in U6, action 1.
abbrev entered : List ℕ
entered = 0x0B ∷ 0x00 ∷ 0x07 ∷ 0x02 ∷ 0x01 ∷ 0x00 ∷ []

abbrev no_channel_entry : List ℕ
no_channel_entry = 0x0C ∷ 0x00 ∷ 0x07 ∷ 0x02 ∷ 0x01 ∷ 0x00 ∷ []

abbrev available : List ℕ
available = 0x0D ∷ 0x00 ∷ 0x07 ∷ 0x02 ∷ 0x01 ∷ 0x00 ∷ []

-- ---- logs, by the milliseconds of their last entry but where another is named

abbrev pub ms5000 : List ℕ
ms5000 = 0x88 ∷ 0x27 ∷ []

abbrev pub ms5001 : List ℕ
ms5001 = 0x89 ∷ 0x27 ∷ []

abbrev pub ms12000 : List ℕ
ms12000 = 0xE0 ∷ 0x5D ∷ []

abbrev pub ms12001 : List ℕ
ms12001 = 0xE1 ∷ 0x5D ∷ []

abbrev pub ms1000 : List ℕ
ms1000 = 0xE8 ∷ 0x07 ∷ []

abbrev pub ms1001 : List ℕ
ms1001 = 0xE9 ∷ 0x07 ∷ []

abbrev pub ms2000 : List ℕ
ms2000 = 0xD0 ∷ 0x0F ∷ []

abbrev pub ms10000 : List ℕ
ms10000 = 0x90 ∷ 0x4E ∷ []

abbrev pub ms10001 : List ℕ
ms10001 = 0x91 ∷ 0x4E ∷ []

abbrev pub ms60000 : List ℕ
ms60000 = 0xE0 ∷ 0xD4 ∷ 0x03 ∷ []

abbrev pub ms60001 : List ℕ
ms60001 = 0xE1 ∷ 0xD4 ∷ 0x03 ∷ []

abbrev pub hour : List ℕ
hour = 0x80 ∷ 0xDD ∷ 0xDB ∷ 0x01 ∷ []

-- In U0.p, until the establishment fails.
abbrev pub calling : List ℕ → List ℕ
calling ms = 0x01 ∷ (set_up ++ (ms ++ failed))

-- In U4 until the joining timer expires, and once more until group receive mode is entered.
abbrev pub joining : List ℕ → List ℕ
joining ms = 0x01 ∷ (notified ++ ((0x00 ∷ join) ++ (expires_at12000 ++ (notified ++ ((0x00 ∷ join) ++ (ms ++ entered))))))

-- In U6.
abbrev listening : List ℕ
listening = notified ++ ((0x00 ∷ join) ++ (0x00 ∷ entered))

-- There the channel is lost, 2,000 ms later that is told again, and then it is available.
abbrev pub losing : List ℕ → List ℕ
losing ms = 0x01 ∷ (listening ++ ((0x00 ∷ no_channel_entry) ++ ((ms2000 ++ no_channel_entry) ++ (ms ++ available))))

-- In U5 by a version, until the call is aborted.
abbrev pub asking : ℕ → List ℕ → List ℕ
asking version ms = version ∷ (set_up ++ (established ++ (terminates ++ (ms ++ aborted))))

-- In U3 until the invitation is forgotten, and once more until it is joined.
abbrev pub invited : List ℕ → List ℕ
invited ms = 0x03 ∷ (notified ++ (forgotten_at60000 ++ (notified ++ (ms ++ join))))

-- In U5 by version 1, where TERMINATION REJECT stops T_term, until the call is aborted.
abbrev pub refusing : List ℕ → List ℕ
refusing ms = 0x01 ∷ (set_up ++ (established ++ (terminates ++ (rejected ++ (ms ++ aborted)))))

-- In U6 until the channel is lost, and available again at once.
abbrev pub hearing_on : List ℕ → List ℕ
hearing_on ms = 0x01 ∷ (listening ++ ((ms ++ no_channel_entry) ++ (0x00 ∷ available)))

-- In U6, where the channel is lost, available again at once, and lost again.
abbrev pub losing_again : List ℕ → List ℕ
losing_again ms = 0x01 ∷ (listening ++ ((0x00 ∷ no_channel_entry) ++ ((0x00 ∷ available) ++ (ms ++ no_channel_entry))))

-- In U3 by version 2, until it is joined.
abbrev pub inviting : List ℕ → List ℕ
inviting ms = 0x02 ∷ (notified ++ (ms ++ join))

-- ---- how each is answered

abbrev pub between : ℕ → ℕ → Window
between least greatest = record { least = least; greatest = greatest }

abbrev pub any_joining : Window
any_joining = between 10000 30000

pub record Answers : Type 0 where
  pub u0p : judge_of own identity (calling ms5000) ≡ Accepted 2 any_joining Untold
  pub u0p_over : judge_of own identity (calling ms5001) ≡ Unexplained 2
  pub u4 : judge_of own identity (joining ms12000) ≡ Accepted 6 (between 12000 12000) Untold
  pub u4_over : judge_of own identity (joining ms12001) ≡ Unexplained 6
  pub u6 : judge_of own identity (losing ms1000) ≡ Accepted 6 any_joining Untold
  pub u6_over : judge_of own identity (losing ms1001) ≡ Unexplained 6
  pub u5 : judge_of own identity (asking 2 ms10000) ≡ Accepted 4 any_joining Untold
  pub u5_over : judge_of own identity (asking 2 ms10001) ≡ Unexplained 4
  pub u5_third : judge_of own identity (asking 3 ms10000) ≡ Accepted 4 any_joining (Told (between 1000 600000))
  pub u5_third_over : judge_of own identity (asking 3 ms10001) ≡ Unexplained 4
  pub u3 : judge_of own identity (invited ms60000) ≡ Accepted 4 any_joining (Told (between 60000 60000))
  pub u3_over : judge_of own identity (invited ms60001) ≡ Unexplained 4
  pub u5_first : judge_of own identity (refusing hour) ≡ Accepted 5 any_joining Untold
  pub u6_heard : judge_of own identity (hearing_on hour) ≡ Accepted 5 any_joining Untold
  pub u6_again : judge_of own identity (losing_again hour) ≡ Accepted 6 any_joining Untold
  pub u3_second : judge_of own identity (inviting hour) ≡ Accepted 2 any_joining Untold

pub answers : Answers
unfolding judge_of version_judged invitation_told tells_invitation table_of settings_out judge_two judge judge_from turn narrow entries entries_in number_at groups_at joined up_to run_at call_at received_at data_at claim_at rest_at entry_at has_event greatest_state greatest_actions carries_call agree parameters_number weighs step_of refusal_of fitness_refusal argument_refusal out_of_range reacted_to due_to event_of told_due settled_by step_by seen_of carried_out decided_by decided_in step_table heard_in happened_in afterwards with_timer parameters_after entering start_row set_row value_after reference_after cleared fit_by consistent_by timers_fit_by remembered_fit_by chooser_fit_by pending_fit_by talk_fit_by is_cleared running_among remembering returning expiry_of length_of reply_of row_of own_of status_due request_due due_of same_octets fitness_of protocol_of adopted originating noted awaiting_after sent_in flushed discriminator counted_at within next_element element_among element_from lies whole_of termination_reject_of body_of read_message table type_of head_of written sent hearing flag_in flag_by flag_of seen_message understood_due reading_due transaction_is awaited_is transaction_fits cause_in type_cause asked_of
answers = record {
  u0p = refl;
  u0p_over = refl;
  u4 = refl;
  u4_over = refl;
  u6 = refl;
  u6_over = refl;
  u5 = refl;
  u5_over = refl;
  u5_third = refl;
  u5_third_over = refl;
  u3 = refl;
  u3_over = refl;
  u5_first = refl;
  u6_heard = refl;
  u6_again = refl;
  u3_second = refl;
}

-- ---- the visits that reach the limits

-- The entries of a log, behind a version of one octet.
abbrev pub entries_of : Table → List ℕ → List Noted
entries_of table s = noted_from table own identity 0 (entries_at table own identity s 1)

abbrev note : ℕ → ℕ → ℕ → Noted
note time event state = record { time = time; event = event; state = state }

-- A visit of exactly so many milliseconds.
abbrev pub Lasts : ℕ → State → List Noted → Type 0
Lasts limit state log = (visit : Visit state log) × (visit.next.time ≡ visit.enters.time + limit)

-- In U6 so many milliseconds after a "no channel", and in it so many since it was entered.
pub record Lacks (limit all : ℕ) (log : List Noted) : Type 0 where
  pub visit : Visit U6 log
  pub channel : NoChannel visit
  pub lacks : visit.next.time ≡ channel.lost.time + limit
  pub lasts : visit.next.time ≡ visit.enters.time + all

-- Whether or not a "channel available" followed it.
pub record LacksAtFirst (limit : ℕ) (log : List Noted) : Type 0 where
  pub visit : Visit U6 log
  pub earlier : List Noted
  pub lost : Noted
  pub later : List Noted
  pub split : visit.enters ∷ visit.stays ≡ earlier ++ (lost ∷ later)
  pub no_channel : lost.event ≡ 12
  pub lacks : visit.next.time ≡ lost.time + limit

-- Of U6 the first "no channel" counts, and a second does not put it off; and there may be an hour in which there is a channel before it, and behind it.
pub record Waits : Type 0 where
  pub u0p : Lasts 5000 U0p (entries_of First (calling ms5000))
  pub u4 : Lasts 12000 U4 (entries_of First (joining ms12000))
  pub u5 : Lasts 10000 U5 (entries_of Second (asking 2 ms10000))
  pub u3 : Lasts 60000 U3 (entries_of Third (invited ms60000))
  pub u5_first : Lasts 3600000 U5 (entries_of First (refusing hour))
  pub u6 : Lacks 3000 3000 (entries_of First (losing ms1000))
  pub u6_late : Lacks 0 3600000 (entries_of First (hearing_on hour))
  pub u6_again : LacksAtFirst 3600000 (entries_of First (losing_again hour))
  pub u3_second : Lasts 3600000 U3 (entries_of Second (inviting hour))

pub waits : Waits
unfolding entries entries_in number_at groups_at joined up_to run_at call_at received_at data_at claim_at rest_at entry_at has_event greatest_state greatest_actions carries_call
waits = record {
  u0p = (
    record {
      before = [];
      enters = note 0 1 1;
      stays = [];
      next = note 5000 7 0;
      behind = [];
      split = refl;
      from_another = λ e. omega (arith, e);
      there = (refl, tt);
    },
    refl,
  );
  u4 = (
    record {
      before = note 0 10 4 ∷ note 0 3 5 ∷ note 12000 16 0 ∷ note 12000 10 4 ∷ [];
      enters = note 12000 3 5;
      stays = [];
      next = note 24000 11 7;
      behind = [];
      split = refl;
      from_another = λ e. omega (arith, e);
      there = (refl, tt);
    },
    refl,
  );
  u5 = (
    record {
      before = note 0 1 1 ∷ note 0 6 2 ∷ [];
      enters = note 0 4 6;
      stays = [];
      next = note 10000 9 0;
      behind = [];
      split = refl;
      from_another = λ e. omega (arith, e);
      there = (refl, tt);
    },
    refl,
  );
  u3 = (
    record {
      before = note 0 10 4 ∷ note 60000 19 0 ∷ [];
      enters = note 60000 10 4;
      stays = [];
      next = note 120000 3 5;
      behind = [];
      split = refl;
      from_another = λ e. omega (arith, e);
      there = (refl, tt);
    },
    refl,
  );
  u5_first = (
    record {
      before = note 0 1 1 ∷ note 0 6 2 ∷ [];
      enters = note 0 4 6;
      stays = note 0 18 6 ∷ [];
      next = note 3600000 9 0;
      behind = [];
      split = refl;
      from_another = λ e. omega (arith, e);
      there = (refl, (refl, tt));
    },
    refl,
  );
  u6 = record {
    visit = record {
      before = note 0 10 4 ∷ note 0 3 5 ∷ [];
      enters = note 0 11 7;
      stays = note 0 12 7 ∷ note 2000 12 7 ∷ [];
      next = note 3000 13 7;
      behind = [];
      split = refl;
      from_another = λ e. omega (arith, e);
      there = (refl, (refl, (refl, tt)));
    };
    channel = record { earlier = note 0 11 7 ∷ []; lost = note 0 12 7; later = note 2000 12 7 ∷ []; split = refl; no_channel = refl; none-available = (λ e. omega (arith, e), tt) };
    lacks = refl;
    lasts = refl;
  };
  u6_late = record {
    visit = record {
      before = note 0 10 4 ∷ note 0 3 5 ∷ [];
      enters = note 0 11 7;
      stays = note 3600000 12 7 ∷ [];
      next = note 3600000 13 7;
      behind = [];
      split = refl;
      from_another = λ e. omega (arith, e);
      there = (refl, (refl, tt));
    };
    channel = record { earlier = note 0 11 7 ∷ []; lost = note 3600000 12 7; later = []; split = refl; no_channel = refl; none-available = tt };
    lacks = refl;
    lasts = refl;
  };
  u6_again = record {
    visit = record {
      before = note 0 10 4 ∷ note 0 3 5 ∷ [];
      enters = note 0 11 7;
      stays = note 0 12 7 ∷ note 0 13 7 ∷ [];
      next = note 3600000 12 7;
      behind = [];
      split = refl;
      from_another = λ e. omega (arith, e);
      there = (refl, (refl, (refl, tt)));
    };
    earlier = note 0 11 7 ∷ [];
    lost = note 0 12 7;
    later = note 0 13 7 ∷ [];
    split = refl;
    no_channel = refl;
    lacks = refl;
  };
  u3_second = (
    record {
      before = [];
      enters = note 0 10 4;
      stays = [];
      next = note 3600000 3 5;
      behind = [];
      split = refl;
      from_another = λ e. omega (arith, e);
      there = (refl, tt);
    },
    refl,
  );
}
