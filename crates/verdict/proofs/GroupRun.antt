-- A group call from end to end, worked out by hand from 24.068: a crew is notified, joins, listens, is asked for its status, talks and loses the channel; then it calls, is asked
-- for its status while it listens, asks for the end, which is sent together with the STATUS as soon as COMM is true, and is rejected. The log of it is accepted.
use Prim.Native.Nat.{ℕ}
use mathlib.Core.Path.{◌≡◌, refl}
use mathlib.Core.List.{List, [], ◌∷◌}
use Rattle.codes.specs.Attributes.{parameters_of, weighs, attributes_of, parameters_number}
use Rattle.codes.specs.CallStates.{call_state_of, call_state_code}
use Rattle.codes.specs.Protocol.{discriminator}
use Rattle.element.specs.Counted.{counted_at}
use Rattle.element.specs.Elements.{within, next_element, element_among, element_from}
use Rattle.message.specs.Content.{lies}
use Rattle.message.specs.Reading.{whole_of, identity_behind, half_at, connect_of, get_status_of, immediate_identity_of, immediate_setup_of, set_parameter_of, setup_of, status_of, termination_of, termination_reject_of, termination_request_of, body_of, read_message}
use Rattle.message.specs.Tables.{table, type_of, head_of, written, fits}
use Rattle.context.specs.Context.{start_row, set_row, entering, cleared}
use Rattle.context.specs.Remembered.{remembered_number, remembering, returning}
use Rattle.context.specs.Talk.{flag_in, flag_by, flag_of}
use Rattle.timer.specs.Timers.{expiry_of, length_of, running_among, with_timer, alone}
use Rattle.fitness.specs.Fitness.{consistent_by, timers_fit_by, remembered_fit_by, chooser_fit_by, pending_fit_by, talk_fit_by, is_cleared, fit_by}
use Rattle.fitness.specs.Tables.{fitness_of}
use Rattle.transitions.specs.Table.{step_table, heard_in, happened_in, decided_in, decided_by}
use Rattle.call.specs.Due.{settled_by}
use Rattle.call.specs.Events.{seen_message, seen_of}
use Rattle.call.specs.Reasons.{reason_number}
use Rattle.call.specs.Step.{parameters_after, value_after, reference_after, afterwards, ignored, no_step, reported_with, status_told, parameters_set, carried_out, step_by}
use Rattle.call.specs.Talk.{noted, adopted, originating, awaiting_after, sent_in, flushed}
use Rattle.reply.specs.Reply.{sent, status_of as reply-statusOf, copied, hearing, row_of, own_of, status_due, request_due, reply_of, put_content, copy_count, put_of, behind, put_due, put_all}
use Rattle.received.specs.Due.{understood_due, reading_due, due_of}
use Rattle.received.specs.Received.{transaction_is, awaited_is, transaction_fits, cause_in, type_cause, asked_of, same_octets, is_other, Within}
use Rattle.step_arguments.specs.Arguments.{settings_out, out_of_range, argument_refusal}
use Rattle.radio.specs.Step.{event_of, told_due, due_to, reacted_to, fitness_refusal, refusal_of, step_of, taken_of}
use Rattle.version.specs.Version.{version_of, table_of, has_event, greatest_state, greatest_actions, protocol_of}
use Rattle.septets.specs.Number.{groups, grouped, joined, groups_at, number_at, up_to}
use Rattle.log_field.specs.Reading.{run_at}
use Rattle.log_data.specs.Reading.{carries_call, call_at, received_at, data_at}
use Rattle.log_claim.specs.Reading.{claim_at}
use Rattle.log_entry.specs.Reading.{rest_at, entry_at}
use Rattle.judge_laws.specs.Judge.{narrow, turn, judge_from, judge}
use Rattle.judge_laws.specs.Reading.{entries_in, entries}
use Rattle.judge_laws.specs.TwoTimers.{judge_two}
use Rattle.message.specs.declared.Own.{Own}
use Rattle.verdict.specs.Table.{agree, tells_invitation}
use Rattle.verdict.specs.Judge.{invitation_told, version_judged, judge_of, answer_number, answer_values}

abbrev own : Own
own = record { key = 5; classmark = record { first = 1; second = 2; third = 3 } }

abbrev identity : List ℕ
identity = 0x11 ∷ 0x22 ∷ []

abbrev pub run : List ℕ
run = 0x10 ∷ 0x00 ∷ 0x0A ∷ 0x02 ∷ 0x00 ∷ 0x00 ∷ 0x00 ∷ 0x20 ∷ 0x00 ∷ 0x04 ∷ 0x00 ∷ 0x01 ∷ 0x00 ∷ 0x00 ∷ 0x03 ∷ 0x00 ∷ 0x05 ∷ 0x00 ∷ 0x04 ∷ 0x00 ∷ 0x00 ∷ 0x0B ∷ 0x00 ∷ 0x0A ∷ 0x02 ∷ 0x01 ∷ 0x00 ∷ 0x00 ∷ 0x12 ∷ 0x00 ∷ 0x02 ∷ 0x20 ∷ 0x39 ∷ 0x00 ∷ 0x0B ∷ 0x03 ∷ 0x40 ∷ 0x00 ∷ 0x00 ∷ 0x22 ∷ 0x00 ∷ 0x0C ∷ 0x03 ∷ 0x00 ∷ 0x00 ∷ 0x00 ∷ 0x12 ∷ 0x00 ∷ 0x03 ∷ 0xC0 ∷ 0x3A ∷ 0x0E ∷ 0x01 ∷ 0x0C ∷ 0x03 ∷ 0x00 ∷ 0x00 ∷ 0x00 ∷ 0x12 ∷ 0x00 ∷ 0x03 ∷ 0x40 ∷ 0x3A ∷ 0x0E ∷ 0x00 ∷ 0x0C ∷ 0x07 ∷ 0x00 ∷ 0x06 ∷ 0xC0 ∷ 0x38 ∷ 0x01 ∷ 0x9E ∷ 0xAA ∷ 0xBE ∷ 0x00 ∷ 0x0C ∷ 0x00 ∷ 0x0D ∷ 0x03 ∷ 0x00 ∷ 0x00 ∷ 0xB8 ∷ 0x17 ∷ 0x11 ∷ 0x00 ∷ 0x00 ∷ 0x00 ∷ 0x09 ∷ 0x00 ∷ 0x00 ∷ 0x02 ∷ 0x01 ∷ 0x00 ∷ 0x00 ∷ 0x00 ∷ 0x20 ∷ 0x00 ∷ 0x02 ∷ 0x0C ∷ 0x00 ∷ 0x0E ∷ 0x10 ∷ 0x31 ∷ 0x50 ∷ 0x03 ∷ 0x01 ∷ 0x02 ∷ 0x03 ∷ 0x02 ∷ 0x11 ∷ 0x22 ∷ 0x00 ∷ 0x00 ∷ 0x00 ∷ 0x20 ∷ 0x00 ∷ 0x12 ∷ 0x00 ∷ 0x07 ∷ 0x90 ∷ 0x33 ∷ 0x00 ∷ 0x00 ∷ 0x01 ∷ 0x20 ∷ 0x01 ∷ 0x00 ∷ 0x08 ∷ 0x0F ∷ 0x20 ∷ 0x00 ∷ 0x00 ∷ 0x20 ∷ 0x00 ∷ 0x09 ∷ 0x0E ∷ 0x04 ∷ 0x00 ∷ 0x00 ∷ 0x0B ∷ 0x00 ∷ 0x0A ∷ 0x0A ∷ 0x00 ∷ 0x00 ∷ 0x00 ∷ 0x12 ∷ 0x00 ∷ 0x02 ∷ 0x90 ∷ 0x39 ∷ 0x00 ∷ 0x0B ∷ 0x0B ∷ 0x40 ∷ 0x00 ∷ 0x00 ∷ 0x04 ∷ 0x00 ∷ 0x0B ∷ 0x0B ∷ 0x00 ∷ 0x00 ∷ 0x00 ∷ 0x22 ∷ 0x00 ∷ 0x0C ∷ 0x0B ∷ 0x00 ∷ 0x00 ∷ 0x00 ∷ 0x12 ∷ 0x00 ∷ 0x03 ∷ 0x90 ∷ 0x3A ∷ 0x0F ∷ 0x00 ∷ 0x06 ∷ 0x0F ∷ 0x00 ∷ 0x0C ∷ 0x10 ∷ 0x38 ∷ 0x01 ∷ 0x9E ∷ 0xAA ∷ 0xBF ∷ 0x10 ∷ 0x35 ∷ 0x00 ∷ 0x00 ∷ 0x01 ∷ 0x20 ∷ 0x00 ∷ 0x12 ∷ 0x00 ∷ 0x06 ∷ 0x90 ∷ 0x36 ∷ 0x98 ∷ 0x00 ∷ 0x00 ∷ 0x00 ∷ 0x00 ∷ 0x0C ∷ 0x0F ∷ 0x01 ∷ 0x00 ∷ []

pub run-accepted : (answer_number (judge_of own identity run) ≡ 0) × (answer_values (judge_of own identity run) ≡ 18 ∷ 10000 ∷ 30000 ∷ [])
unfolding parameters_of weighs attributes_of call_state_of call_state_code discriminator counted_at within next_element element_among element_from lies whole_of identity_behind half_at connect_of get_status_of immediate_identity_of immediate_setup_of set_parameter_of setup_of status_of termination_of termination_reject_of termination_request_of body_of read_message table type_of head_of written fits start_row set_row entering cleared remembered_number remembering returning flag_in flag_by flag_of expiry_of length_of running_among with_timer alone consistent_by timers_fit_by remembered_fit_by chooser_fit_by pending_fit_by talk_fit_by is_cleared fit_by fitness_of step_table heard_in happened_in decided_in decided_by settled_by seen_message seen_of reason_number parameters_after value_after reference_after afterwards ignored no_step reported_with status_told parameters_set carried_out step_by noted adopted originating awaiting_after sent_in flushed sent reply-statusOf copied hearing row_of own_of status_due request_due reply_of put_content copy_count put_of behind put_due put_all understood_due reading_due due_of transaction_is awaited_is transaction_fits cause_in type_cause asked_of same_octets is_other Within settings_out out_of_range argument_refusal event_of told_due due_to reacted_to fitness_refusal refusal_of step_of taken_of version_of table_of has_event greatest_state greatest_actions protocol_of groups grouped joined groups_at number_at up_to run_at carries_call call_at received_at data_at claim_at rest_at entry_at judge_two parameters_number agree tells_invitation invitation_told version_judged judge_of narrow turn judge_from judge entries_in entries
run-accepted = (refl, refl)
