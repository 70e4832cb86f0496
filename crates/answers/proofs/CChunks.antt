-- The contracts of a file that C gives in chunks are held to one answer, and rule wrong ones out, by computation.
use mathlib.Core.Path.{refl}
use lib.ListN.{get_or}
use Rattle.refusal.specs.Rules.{first_broken}
use Rattle.text.specs.Alphabet.{allowed, holds_only, first_stray}
use Rattle.text.specs.Number.{value_from}
use Rattle.text.specs.Literal.{same_bytes, has_byte, one_byte_of}
use Rattle.calendar.specs.Month.{days_in}
use Rattle.calendar.specs.Day.{is_day}
use Rattle.calendar.specs.Time.{is_time}
use Rattle.calendar.specs.When.{when_rules}
use Rattle.pan.specs.CardField.{well_formed}
use Rattle.card_content.specs.Content.{in_set, content_rules}
use Rattle.card_content.specs.Field.{table_rules, record_rules}
use Rattle.card_sale.specs.Cv.{joined_rules}
use Rattle.card_record.specs.Kind.{kind_named}
use Rattle.card_record.specs.Reading.{right_reading, judged_as, read_found}
use Rattle.card_run.specs.Answer.{answer_at, card_file_row}
use Rattle.card_run.specs.Running.{closed_at, late_at}
use Rattle.lines.specs.Lines.{in_front, cut, ends_in_cr, without_last}
use Rattle.chunks.specs.Unfinished.{clipped_with}
use Rattle.chunks.specs.Chunks.{held_before}
use Rattle.card_file.specs.CardFile.{unended_at, end_of}
use Rattle.card_stream.specs.Stream.{behind_end, with_held}
use Rattle.card_step.specs.Rules.{joined_at, rules_of}
use Rattle.card_step.specs.Behind.{behind}
use Rattle.card_step.specs.Step.{behind_or_refused, took_at}
use Rattle.payroll_record.specs.Field.{number_rules}
use Rattle.payroll_record.specs.Front.{stray_at}
use Rattle.payroll_record.specs.Kind.{segment_named, kind_named as payroll_kind}
use Rattle.payroll_record.specs.Reading.{read_as, read_found as payroll_found}
use Rattle.payroll_step.specs.Rules.{found_rules, due_rules, rules_of as payroll_rules}
use Rattle.payroll_run.specs.Behind.{behind_detail_as, behind as payroll_behind}
use Rattle.payroll_step.specs.Step.{behind_or_refused as payroll_step, took_at as payroll_took}
use Rattle.payroll_file.specs.Answer.{payroll_row}
use Rattle.payroll_file.specs.PayrollFile.{ended_of, cut_short_of, end_at}
use Rattle.payroll_stream.specs.Stream.{behind_end as payroll_behind_end, taken_behind_end, taken_at, ended_at, so_far, answer_at as payroll_at, progress_row}
use Rattle.state_numbers.specs.CardState.{state_numbers, stage_of, state_of}
use Rattle.state_numbers.specs.PayrollState.{feeding_numbers, stage_of as payroll_stage, running_of, progress_of}
use Rattle.state_numbers.proofs.Calls.{card_left, payroll_left}
use base.Fml.{Lft}
use Rattle.answers.specs.CChunks.{CChunks}
use Rattle.answers.proofs.Told.{equal, told}

pub c_chunks : (κ : Lft) → CChunks κ
unfolding first_broken allowed holds_only first_stray value_from same_bytes has_byte one_byte_of days_in is_day is_time when_rules well_formed in_set content_rules table_rules record_rules joined_rules kind_named right_reading judged_as read_found answer_at card_file_row closed_at late_at in_front cut ends_in_cr without_last clipped_with held_before unended_at end_of behind_end with_held joined_at rules_of behind behind_or_refused took_at number_rules stray_at segment_named payroll_kind read_as payroll_found found_rules due_rules payroll_rules behind_detail_as payroll_behind payroll_step payroll_took payroll_row ended_of cut_short_of end_at payroll_behind_end taken_behind_end taken_at ended_at so_far payroll_at progress_row state_numbers stage_of state_of feeding_numbers payroll_stage running_of progress_of
c_chunks κ =
    record {
      card_open = λ κs a r r' s s' p q. equal (card_left p) (card_left q);
      card_open_1 = (record { in_numbers = refl; waits = refl; is_held = refl }, λ p. told (λ l. get_or l 0 0) refl p.in_numbers);
      card_open_waiting = (record { in_numbers = refl; waits = refl; is_held = refl }, λ p. told (λ n. n) refl p.waits);
      card_take = λ κs a r r' s s' p q. equal (card_left p) (card_left q);
      card_take_half = (record { in_numbers = refl; waits = refl; is_held = refl }, λ p. told (λ l. get_or l 0 0) refl p.in_numbers);
      card_take_lost = (record { in_numbers = refl; waits = refl; is_held = refl }, λ p. told (λ n. n) refl p.waits);
      card_take_bytes = (record { in_numbers = refl; waits = refl; is_held = refl }, λ p. told (λ l. get_or l 0 0) refl p.is_held);
      card_end = λ κs a r r' s s' p q. equal (card_left p) (card_left q);
      card_end_held = (record { in_numbers = refl; waits = refl; is_held = refl }, λ p. told (λ l. get_or l 0 0) refl p.in_numbers);
      card_end_early = (record { in_numbers = refl; waits = refl; is_held = refl }, λ p. told (λ l. get_or l 0 0) refl p.in_numbers);
      card_answer_lem = λ κs a r r' s s' p q. (refl, equal p q);
      card_answer_early = (refl, told (λ l. get_or l 19 0) refl);
      card_answer_behind = (refl, told (λ l. get_or l 19 0) refl);
      payroll_open = λ κs a r r' s s' p q. equal (payroll_left p) (payroll_left q);
      payroll_open_answered = (record { in_numbers = refl; waits = refl; is_held = refl }, λ p. told (λ l. get_or l 19 0) refl p.in_numbers);
      payroll_open_waiting = (record { in_numbers = refl; waits = refl; is_held = refl }, λ p. told (λ n. n) refl p.waits);
      payroll_take = λ κs a r r' s s' p q. equal (payroll_left p) (payroll_left q);
      payroll_take_half = (record { in_numbers = refl; waits = refl; is_held = refl }, λ p. told (λ l. get_or l 0 0) refl p.in_numbers);
      payroll_take_behind = (record { in_numbers = refl; waits = refl; is_held = refl }, λ p. told (λ l. get_or l 19 0) refl p.in_numbers);
      payroll_take_bytes = (record { in_numbers = refl; waits = refl; is_held = refl }, λ p. told (λ l. get_or l 0 0) refl p.is_held);
      payroll_end = λ κs a r r' s s' p q. equal (payroll_left p) (payroll_left q);
      payroll_end_early = (record { in_numbers = refl; waits = refl; is_held = refl }, λ p. told (λ l. get_or l 19 0) refl p.in_numbers);
      payroll_end_held = (record { in_numbers = refl; waits = refl; is_held = refl }, λ p. told (λ l. get_or l 19 0) refl p.in_numbers);
      payroll_answer_lem = λ κs a r r' s s' p q. (refl, equal p q);
      payroll_answer_early = (refl, told (λ l. get_or l 7 0) refl);
      payroll_answer_late = (refl, told (λ l. get_or l 0 0) refl);
    }
