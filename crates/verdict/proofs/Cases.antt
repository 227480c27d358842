-- Document 01, "Cases": c1 to c10, logs as bytes and what the judge answers, in one table; behind them logs with an invitation timer, and logs of a group call.
use Prim.Native.Nat.{ℕ}
use mathlib.Core.Path.{◌≡◌, refl}
use mathlib.Core.List.{List, [], ◌∷◌, ◌++◌}
use Rattle.codes.specs.Attributes.{parameters_number, weighs}
use Rattle.context.specs.Remembered.{remembering, returning}
use Rattle.context.specs.Context.{start_row, set_row, entering, cleared}
use Rattle.fitness.specs.Fitness.{consistent_by, timers_fit_by, remembered_fit_by, chooser_fit_by, pending_fit_by, talk_fit_by, is_cleared, fit_by}
use Rattle.fitness.specs.Tables.{fitness_of}
use Rattle.timer.specs.Timers.{running_among, expiry_of, length_of, with_timer}
use Rattle.transitions.specs.Table.{step_table, heard_in, happened_in, decided_in, decided_by}
use Rattle.call.specs.Due.{settled_by}
use Rattle.call.specs.Events.{seen_of}
use Rattle.call.specs.Talk.{adopted, originating, noted, awaiting_after, sent_in, flushed}
use Rattle.call.specs.Step.{parameters_after, value_after, reference_after, afterwards, ignored, no_step, carried_out, step_by}
use Rattle.message.specs.declared.Own.{Own}
use Rattle.reply.specs.Reply.{row_of, own_of, status_due, request_due, reply_of}
use Rattle.received.specs.Received.{same_octets}
use Rattle.received.specs.Due.{due_of}
use Rattle.step_arguments.specs.Arguments.{settings_out, out_of_range, argument_refusal}
use Rattle.radio.specs.Step.{event_of, told_due, due_to, reacted_to, fitness_refusal, refusal_of, step_of}
use Rattle.septets.specs.Number.{joined, groups_at, number_at, up_to}
use Rattle.log_data.specs.Reading.{carries_call, call_at, received_at, data_at}
use Rattle.version.specs.Version.{table_of, has_event, greatest_state, greatest_actions, protocol_of}
use Rattle.log_field.specs.Reading.{run_at}
use Rattle.log_claim.specs.Reading.{claim_at}
use Rattle.log_entry.specs.Reading.{rest_at, entry_at}
use Rattle.judge_laws.specs.Judge.{narrow, turn, judge_from, judge}
use Rattle.judge_laws.specs.Reading.{entries_in, entries}
use Rattle.judge_laws.specs.TwoTimers.{judge_two}
use Rattle.verdict.specs.Table.{tells_invitation, agree}
use Rattle.verdict.specs.Judge.{invitation_told, version_judged, judge_of, answer_number, answer_values}

-- Settings in range; none of these logs asks for what they are.
abbrev own : Own
own = record { key = 5; classmark = record { first = 0x33; second = 0x19; third = 0x82 } }

abbrev identity : List ℕ
identity = 0x08 ∷ 0x49 ∷ 0x26 ∷ 0x10 ∷ []

-- Entries, as milliseconds, event, data; answer, state, parameters, actions, reply length.
-- Broadcast notified, 0 ms: value 0, reference 01 02 03 04; answer 0, U3, action 1.
abbrev notified : List ℕ
notified = 0x00 ∷ 0x0A ∷ 0x00 ∷ 0x01 ∷ 0x02 ∷ 0x03 ∷ 0x04 ∷ 0x00 ∷ 0x04 ∷ 0x00 ∷ 0x01 ∷ 0x00 ∷ []

-- Join: U4, action 4. 00 is 0, D0 0F is 2,000, C1 CF 24 is 600,001.
abbrev join : List ℕ
join = 0x03 ∷ 0x00 ∷ 0x05 ∷ 0x00 ∷ 0x04 ∷ 0x00 ∷ []

abbrev joins : List ℕ
joins = 0x00 ∷ join

-- The joining timer expires: U0, actions 9. E0 5D is 12,000.
abbrev expires_at12000 : List ℕ
expires_at12000 = 0xE0 ∷ 0x5D ∷ 0x10 ∷ 0x00 ∷ 0x00 ∷ 0x00 ∷ 0x09 ∷ 0x00 ∷ []

-- Group receive mode entered: U6, parameters 2 (D-ATT), action 1. 00 is 0, A0 9C 01 is 20,000, B1 EA 01 is 30,001, E1 5D is 12,001.
abbrev entered : List ℕ
entered = 0x0B ∷ 0x00 ∷ 0x07 ∷ 0x02 ∷ 0x01 ∷ 0x00 ∷ []

-- No channel: stays in U6, action 1. D0 0F is 2,000.
abbrev no_channel_entry : List ℕ
no_channel_entry = 0x0C ∷ 0x00 ∷ 0x07 ∷ 0x02 ∷ 0x01 ∷ 0x00 ∷ []

-- T_no channel expires: U0, actions 9. E8 07 is 1,000, B8 17 is 3,000.
abbrev no_channel_expires : List ℕ
no_channel_expires = 0x11 ∷ 0x00 ∷ 0x00 ∷ 0x00 ∷ 0x09 ∷ 0x00 ∷ []

-- In U6, no channel, and again 2,000 ms on.
abbrev twice_no_channel : List ℕ
twice_no_channel = (0x01 ∷ []) ++ (notified ++ (joins ++ ((0x00 ∷ entered) ++ ((0x00 ∷ no_channel_entry) ++ (0xD0 ∷ 0x0F ∷ no_channel_entry)))))

-- TERMINATION received, 0 ms, acknowledged: 4 octets, 01 34 01 9E.
abbrev termination : List ℕ
termination = 0x00 ∷ 0x12 ∷ 0x00 ∷ 0x04 ∷ 0x01 ∷ 0x34 ∷ 0x01 ∷ 0x9E ∷ []

-- T_pres expires: U0, action 0. E0 D4 03 is 60,000, DF D4 03 is 59,999.
abbrev forgotten : List ℕ
forgotten = 0x13 ∷ 0x00 ∷ 0x00 ∷ 0x00 ∷ 0x00 ∷ 0x00 ∷ []

abbrev forgotten_at60000 : List ℕ
forgotten_at60000 = notified ++ (0xE0 ∷ 0xD4 ∷ 0x03 ∷ forgotten)

-- In a group call: group receive mode entered after 20,000 ms: U2r, parameters 2, action 1.
abbrev listening : List ℕ
listening = notified ++ (joins ++ (0xA0 ∷ 0x9C ∷ 0x01 ∷ 0x0B ∷ 0x00 ∷ 0x0A ∷ 0x02 ∷ 0x01 ∷ 0x00 ∷ []))

-- Talk is asked for: U2ws, parameters 3, action 64; transmit mode entered: U2sr, parameters 3; no channel: U2nc, parameters 3; T_no channel expires 3,000 ms on.
abbrev talking : List ℕ
talking =
    (0x00 ∷ 0x21 ∷ 0x00 ∷ 0x0B ∷ 0x03 ∷ 0x40 ∷ 0x00 ∷ [])
    ++ ((0x00 ∷ 0x22 ∷ 0x00 ∷ 0x0C ∷ 0x03 ∷ 0x00 ∷ 0x00 ∷ []) ++ ((0x00 ∷ 0x0C ∷ 0x00 ∷ 0x0D ∷ 0x03 ∷ 0x00 ∷ 0x00 ∷ []) ++ (0xB8 ∷ 0x17 ∷ no_channel_expires)))

-- Each log with the answer's number and values.
abbrev pub cases : List (List ℕ × ℕ × List ℕ)
cases =
    (0x01 ∷ [], 0, 0 ∷ 10000 ∷ 30000 ∷ []) ∷  -- c1
    ([], 8, 0 ∷ []) ∷  -- c2
    (0x01 ∷ 0x00 ∷ 0x03 ∷ 0x03 ∷ 0x00 ∷ 0x00 ∷ 0x00 ∷ 0x00 ∷ [], 0, 1 ∷ 10000 ∷ 30000 ∷ []) ∷  -- c3
    (0x01 ∷ 0x80 ∷ 0x00 ∷ [], 8, 1 ∷ []) ∷  -- c4
    (0x01 ∷ (notified ++ (joins ++ expires_at12000)), 0, 3 ∷ 12000 ∷ 12000 ∷ []) ∷  -- c5
    (0x01 ∷ (notified ++ (joins ++ (0xA0 ∷ 0x9C ∷ 0x01 ∷ entered))), 0, 3 ∷ 20000 ∷ 30000 ∷ []) ∷  -- c6
    (0x01 ∷ (notified ++ (joins ++ (0xB1 ∷ 0xEA ∷ 0x01 ∷ entered))), 9, 3 ∷ []) ∷  -- c7
    (0x01 ∷ (notified ++ (joins ++ (expires_at12000 ++ (notified ++ (joins ++ (0xE1 ∷ 0x5D ∷ entered)))))), 9, 6 ∷ []) ∷  -- c8
    (0x01 ∷ (termination ++ (0x01 ∷ 0x00 ∷ 0x00 ∷ 0x00 ∷ 0x00 ∷ [])), 0, 1 ∷ 10000 ∷ 30000 ∷ []) ∷  -- c9: answer 1
    (0x01 ∷ (termination ++ (0x00 ∷ 0x00 ∷ 0x00 ∷ 0x00 ∷ 0x00 ∷ [])), 9, 1 ∷ []) ∷  -- and not 0
    (twice_no_channel ++ (0xE8 ∷ 0x07 ∷ no_channel_expires), 0, 6 ∷ 10000 ∷ 30000 ∷ []) ∷  -- c10: 3,000 ms after the first
    (twice_no_channel ++ (0xB8 ∷ 0x17 ∷ no_channel_expires), 9, 6 ∷ []) ∷  -- and not after the second
    (0x03 ∷ [], 0, 0 ∷ 10000 ∷ 30000 ∷ 1000 ∷ 600000 ∷ []) ∷  -- version 3: both timers are told
    (0x03 ∷ (notified ++ (0xD0 ∷ 0x0F ∷ join)), 0, 2 ∷ 10000 ∷ 30000 ∷ 2000 ∷ 600000 ∷ []) ∷  -- joined after 2,000 ms
    (0x03 ∷ forgotten_at60000, 0, 2 ∷ 10000 ∷ 30000 ∷ 60000 ∷ 60000 ∷ []) ∷  -- forgotten after 60,000 ms
    (0x03 ∷ (forgotten_at60000 ++ forgotten_at60000), 0, 4 ∷ 10000 ∷ 30000 ∷ 60000 ∷ 60000 ∷ []) ∷  -- and again,
    (0x03 ∷ (forgotten_at60000 ++ (notified ++ (0xDF ∷ 0xD4 ∷ 0x03 ∷ forgotten))), 9, 4 ∷ []) ∷  -- but not a millisecond early
    (0x03 ∷ (forgotten_at60000 ++ (notified ++ (joins ++ expires_at12000))), 0, 5 ∷ 12000 ∷ 12000 ∷ 60000 ∷ 60000 ∷ []) ∷  -- exactly one pair explains it
    (0x03 ∷ (notified ++ (0xC1 ∷ 0xCF ∷ 0x24 ∷ join)), 9, 2 ∷ []) ∷  -- joined after 600,001 ms: no invitation timer is so long,
    (0x02 ∷ (notified ++ (0xC1 ∷ 0xCF ∷ 0x24 ∷ join)), 0, 2 ∷ 10000 ∷ 30000 ∷ []) ∷  -- and version 2 has none
    (0x02 ∷ forgotten_at60000, 8, 2 ∷ []) ∷  -- nor the event of its expiry
    (0x03 ∷ 0x00 ∷ 0x13 ∷ 0x03 ∷ 0x00 ∷ 0x00 ∷ 0x00 ∷ 0x00 ∷ [], 0, 1 ∷ 10000 ∷ 30000 ∷ 1000 ∷ 600000 ∷ []) ∷  -- which has no step in U0
    (0x10 ∷ [], 0, 0 ∷ 10000 ∷ 30000 ∷ []) ∷  -- version 16, a group call: the joining timer alone is told
    (0x10 ∷ 0x00 ∷ 0x03 ∷ 0x03 ∷ 0x00 ∷ 0x00 ∷ 0x00 ∷ 0x00 ∷ [], 0, 1 ∷ 10000 ∷ 30000 ∷ []) ∷
    (0x10 ∷ (listening ++ talking), 0, 7 ∷ 20000 ∷ 30000 ∷ []) ∷  -- listens after 20,000 ms, talks, and loses the channel for 3,000 ms,
    (0x10 ∷ (listening ++ (talking ++ (0x00 ∷ no_channel_expires))), 9, 8 ∷ []) ∷  -- which is over with the call
    (0x10 ∷ (notified ++ (joins ++ (0xA0 ∷ 0x9C ∷ 0x01 ∷ entered))), 9, 3 ∷ []) ∷  -- U6 is no state of a group call
    (0x10 ∷ 0x00 ∷ 0x13 ∷ 0x03 ∷ 0x00 ∷ 0x00 ∷ 0x00 ∷ 0x00 ∷ [], 8, 1 ∷ []) ∷  -- nor is 19 one of its events
    (0x03 ∷ 0x00 ∷ 0x20 ∷ 0x03 ∷ 0x00 ∷ 0x00 ∷ 0x00 ∷ 0x00 ∷ [], 8, 1 ∷ []) ∷  -- and 32 is none of a broadcast call
    []

-- Each log of a table is answered so.
abbrev pub Answered : List (List ℕ × ℕ × List ℕ) → Type 0
Answered [] = Unit {0}
Answered (c ∷ cs) =
    ((answer_number (judge_of own identity c.0) ≡ c.1) × (answer_values (judge_of own identity c.0) ≡ c.2)) × Answered cs

pub all-cases : Answered cases
unfolding judge_of version_judged invitation_told tells_invitation table_of settings_out judge_two judge judge_from turn narrow entries entries_in number_at groups_at joined up_to run_at call_at received_at data_at claim_at rest_at entry_at has_event greatest_state greatest_actions carries_call agree parameters_number weighs step_of refusal_of fitness_refusal argument_refusal out_of_range reacted_to due_to event_of told_due settled_by step_by seen_of carried_out decided_by decided_in step_table heard_in happened_in no_step ignored afterwards with_timer parameters_after entering start_row set_row value_after reference_after cleared fit_by consistent_by timers_fit_by remembered_fit_by chooser_fit_by pending_fit_by talk_fit_by is_cleared running_among remembering returning expiry_of length_of reply_of row_of own_of status_due request_due due_of same_octets fitness_of protocol_of adopted originating noted awaiting_after sent_in flushed
all-cases = ((refl, refl), ((refl, refl), ((refl, refl), ((refl, refl), ((refl, refl), ((refl, refl), ((refl, refl), ((refl, refl), ((refl, refl), ((refl, refl), ((refl, refl), ((refl, refl), ((refl, refl), ((refl, refl), ((refl, refl), ((refl, refl), ((refl, refl), ((refl, refl), ((refl, refl), ((refl, refl), ((refl, refl), ((refl, refl), ((refl, refl), ((refl, refl), ((refl, refl), ((refl, refl), ((refl, refl), ((refl, refl), ((refl, refl), tt)))))))))))))))))))))))))))))
