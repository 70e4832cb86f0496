-- The contracts of a payroll file, whole, in chunks and record by record, are held to one answer, and rule wrong ones out, by computation.
use mathlib.Core.Path.{refl}
use Rattle.refusal.specs.Rules.{first_broken}
use Rattle.text.specs.Alphabet.{allowed, holds_only, first_stray}
use Rattle.text.specs.Number.{value_from}
use Rattle.text.specs.Literal.{same_bytes, has_byte, one_byte_of}
use Rattle.calendar.specs.Month.{days_in}
use Rattle.calendar.specs.Day.{is_day}
use Rattle.calendar.specs.When.{when_rules}
use Rattle.payroll_record.specs.Field.{number_rules}
use Rattle.payroll_record.specs.Front.{stray_at}
use Rattle.payroll_record.specs.Kind.{segment_named, kind_named}
use Rattle.payroll_record.specs.Reading.{read_as, read_found}
use Rattle.payroll_step.specs.Rules.{found_rules, due_rules, rules_of}
use Rattle.payroll_run.specs.Behind.{behind_detail_as, behind}
use Rattle.payroll_step.specs.Step.{behind_or_refused, took_at}
use Rattle.lines.specs.Lines.{in_front, cut, joined, ends_in_cr, without_last}
use Rattle.payroll_file.specs.PayrollFile.{unended_at, lines_of, ended_of, cut_short_of, end_at}
use Rattle.chunks.specs.Unfinished.{clipped_with}
use Rattle.chunks.specs.Chunks.{held_before}
use Rattle.payroll_stream.specs.Stream.{behind_end, taken_behind_end, taken_at, ended_at, so_far, answer_at}
use Rattle.payroll_stream.specs.Feeding.{fed_at, closed_at}
use Rattle.answers.proofs.Observed.{payroll_stage_read, payroll_answer_read, payroll_amount_read, progress_read}
use base.Fml.{Lft}
use Rattle.answers.specs.PayrollFile.{PayrollFile}
use Rattle.answers.proofs.Told.{equal, told, bit}

pub payroll_file_lem : (κ : Lft) → PayrollFile κ
unfolding first_broken allowed holds_only first_stray value_from same_bytes has_byte one_byte_of days_in is_day when_rules number_rules stray_at segment_named kind_named read_as read_found found_rules due_rules rules_of behind_detail_as behind behind_or_refused took_at in_front cut joined ends_in_cr without_last unended_at lines_of ended_of cut_short_of end_at clipped_with held_before behind_end taken_behind_end taken_at ended_at so_far answer_at fed_at closed_at
payroll_file_lem κ =
    record {
      opens = λ κs a r r' s s' p q. equal p q;
      opens_in_batch = (refl, told (λ st. payroll_stage_read st.stage) refl);
      opens_counted = (refl, told (λ st. st.records) refl);
      next_number_lem = λ κs a r r' s s' p q. equal p q;
      next_number_before = (refl, told (λ n. n) refl);
      next_number_wrapped = (refl, told (λ n. n) refl);
      refusal_of_lem = λ κs a r r' s s' p q. equal p q;
      refusal_before = (refl, told (λ r. r.«record») refl);
      refusal_column = (refl, told (λ r. r.column) refl);
      refuses = λ κs a r r' s s' p q. equal p q;
      refuses_forgotten = (refl, told (λ st. payroll_stage_read st.stage) refl);
      refuses_counted = (refl, told (λ st. st.records) refl);
      behind = λ κs a r r' s s' p q. equal p q;
      behind_not_added = (refl, told (λ st. st.amount) refl);
      behind_wrapped = (refl, told (λ st. st.amount) refl);
      behind_not_counted = (refl, told (λ st. st.records) refl);
      took = λ κs a r r' s s' p q. equal p q;
      took_nodded = (refl, told (λ st. payroll_stage_read st.stage) refl);
      took_wrapped = (refl, told (λ st. st.amount) refl);
      took_wrapped_trailer = (refl, told (λ st. payroll_stage_read st.stage) refl);
      took_10_to_the_19 = (refl, told (λ st. payroll_stage_read st.stage) refl);
      took_not_itself = (refl, told (λ st. payroll_stage_read st.stage) refl);
      allows = λ κs a r r' s s' p q. equal p q;
      allows_z = (refl, told bit refl);
      allows_b = (refl, told bit refl);
      allows_a = (refl, told bit refl);
      allows_header = (refl, told bit refl);
      take_line = λ κs a r r' s s' p q. equal p q;
      line_without_cr = (refl, told (λ st. payroll_stage_read st.stage) refl);
      line_not_added = (refl, told (λ st. st.amount) refl);
      answer_with_rest = λ κs a r r' s s' p q. equal p q;
      rest_optional = (refl, told payroll_answer_read refl);
      rest_second = (refl, told payroll_answer_read refl);
      rest_unended = (refl, told payroll_answer_read refl);
      check = λ κs a r r' s s' p q. equal p q;
      check_refused = (refl, told payroll_answer_read refl);
      check_one_answer = (refl, told payroll_answer_read refl);
      check_first_record = (refl, told payroll_answer_read refl);
      check_accent = (refl, told payroll_answer_read refl);
      check_not_added = (refl, told payroll_amount_read refl);
      stream_open_lem = λ κs a r r' s s' p q. equal p q;
      stream_open_answered = (refl, told (λ s. progress_read s.progress) refl);
      stream_open_byte = (refl, told (λ s. s.held.length) refl);
      stream_take = λ κs a r r' s s' p q. equal p q;
      stream_take_half = (refl, told (λ s. payroll_stage_read s.state.stage) refl);
      stream_take_behind = (refl, told (λ s. progress_read s.progress) refl);
      stream_end = λ κs a r r' s s' p q. equal p q;
      stream_end_early = (refl, told (λ s. progress_read s.progress) refl);
      stream_end_held = (refl, told (λ s. progress_read s.progress) refl);
      stream_answer = λ κs a r r' s s' p q. equal p q;
      stream_answer_early = (refl, told progress_read refl);
      stream_answer_late = (refl, told progress_read refl);
      feeding_open = λ κs a r r' s s' p q. equal p q;
      feeding_open_answered = (refl, told (λ f. progress_read f.progress) refl);
      feeding_open_in_batch = (refl, told (λ f. payroll_stage_read f.state.stage) refl);
      feeding_feed = λ κs a r r' s s' p q. equal p q;
      feeding_feed_not_added = (refl, told (λ f. f.state.amount) refl);
      feeding_feed_behind = (refl, told (λ f. progress_read f.progress) refl);
      feeding_close = λ κs a r r' s s' p q. equal p q;
      feeding_close_optional = (refl, told (λ f. progress_read f.progress) refl);
      feeding_close_again = (refl, told (λ f. progress_read f.progress) refl);
      feeding_answer_lem = λ κs a r r' s s' p q. equal p q;
      feeding_answer_early = (refl, told progress_read refl);
      feeding_answer_late = (refl, told progress_read refl);
    }
