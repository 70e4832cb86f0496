-- The contracts of a file that C gives record by record are held to one answer, and rule wrong ones out, by computation.
use mathlib.Core.Path.{refl}
use lib.ListN.{get_or}
use Rattle.refusal.specs.Rules.{first_broken}
use Rattle.text.specs.Alphabet.{allowed, holds_only, first_stray}
use Rattle.text.specs.Number.{value_from}
use Rattle.text.specs.Literal.{same_bytes, has_byte, one_byte_of}
use Rattle.calendar.specs.Month.{days_in}
use Rattle.calendar.specs.Day.{is_day}
use Rattle.calendar.specs.Time.{is_time}
use Rattle.calendar.specs.When.{when_rules}
use Rattle.pan.specs.CardField.{well_formed}
use Rattle.card_content.specs.Content.{in_set, content_rules}
use Rattle.card_content.specs.Field.{table_rules, record_rules}
use Rattle.card_sale.specs.Cv.{joined_rules}
use Rattle.card_record.specs.Kind.{kind_named}
use Rattle.card_record.specs.Reading.{right_reading, judged_as, read_found}
use Rattle.card_run.specs.Answer.{answer_at, card_file_row}
use Rattle.card_run.specs.Running.{closed_at, late_at}
use Rattle.card_step.specs.Rules.{joined_at, rules_of}
use Rattle.card_step.specs.Behind.{behind}
use Rattle.card_step.specs.Step.{behind_or_refused, took_at}
use Rattle.payroll_record.specs.Field.{number_rules}
use Rattle.payroll_record.specs.Front.{stray_at}
use Rattle.payroll_record.specs.Kind.{segment_named, kind_named as payroll_kind}
use Rattle.payroll_record.specs.Reading.{read_as, read_found as payroll_found}
use Rattle.payroll_step.specs.Rules.{found_rules, due_rules, rules_of as payroll_rules}
use Rattle.payroll_run.specs.Behind.{behind_detail_as, behind as payroll_behind}
use Rattle.payroll_step.specs.Step.{behind_or_refused as payroll_step, took_at as payroll_took}
use Rattle.payroll_file.specs.Answer.{payroll_row}
use Rattle.payroll_file.specs.PayrollFile.{ended_of, end_at}
use Rattle.payroll_stream.specs.Stream.{behind_end, so_far, answer_at as payroll_at, progress_row}
use Rattle.payroll_stream.specs.Feeding.{fed_at, closed_at as payroll_closed}
use Rattle.state_numbers.specs.CardState.{state_numbers, stage_of, state_of}
use Rattle.state_numbers.specs.PayrollState.{feeding_numbers, stage_of as payroll_stage, running_of, progress_of}
use base.Fml.{Lft}
use Rattle.answers.specs.CRecords.{CRecords}
use Rattle.answers.proofs.Told.{equal, told}

pub c_records : (κ : Lft) → CRecords κ
unfolding first_broken allowed holds_only first_stray value_from same_bytes has_byte one_byte_of days_in is_day is_time when_rules well_formed in_set content_rules table_rules record_rules joined_rules kind_named right_reading judged_as read_found answer_at card_file_row closed_at late_at joined_at rules_of behind behind_or_refused took_at number_rules stray_at segment_named payroll_kind read_as payroll_found found_rules due_rules payroll_rules behind_detail_as payroll_behind payroll_step payroll_took payroll_row ended_of end_at behind_end so_far payroll_at progress_row fed_at payroll_closed state_numbers stage_of state_of feeding_numbers payroll_stage running_of progress_of
c_records κ =
    record {
      card_open = λ κs a r r' s s' p q. (refl, equal p q);
      card_open_258 = (refl, told (λ l. get_or l 0 0) refl);
      card_open_left = (refl, told (λ l. get_or l 0 0) refl);
      card_feed = λ κs a r r' s s' p q. (refl, equal p q);
      card_feed_left = (refl, told (λ l. get_or l 7 0) refl);
      card_feed_refused = (refl, told (λ l. get_or l 0 0) refl);
      card_close = λ κs a r r' s s' p q. (refl, equal p q);
      card_close_early = (refl, told (λ l. get_or l 0 0) refl);
      card_close_left = (refl, told (λ l. get_or l 0 0) refl);
      card_answer_lem = λ κs a r r' s s' p q. (refl, equal p q);
      card_answer_early = (refl, told (λ l. get_or l 19 0) refl);
      card_answer_zeros = (refl, told (λ l. get_or l 0 0) refl);
      payroll_open = λ κs a r r' s s' p q. (refl, equal p q);
      payroll_open_counted = (refl, told (λ l. get_or l 5 0) refl);
      payroll_open_left = (refl, told (λ l. get_or l 0 0) refl);
      payroll_feed = λ κs a r r' s s' p q. (refl, equal p q);
      payroll_feed_left = (refl, told (λ l. get_or l 0 0) refl);
      payroll_feed_behind = (refl, told (λ l. get_or l 19 0) refl);
      payroll_close = λ κs a r r' s s' p q. (refl, equal p q);
      payroll_close_optional = (refl, told (λ l. get_or l 19 0) refl);
      payroll_close_left = (refl, told (λ l. get_or l 19 0) refl);
      payroll_answer_lem = λ κs a r r' s s' p q. (refl, equal p q);
      payroll_answer_early = (refl, told (λ l. get_or l 7 0) refl);
      payroll_answer_late = (refl, told (λ l. get_or l 0 0) refl);
    }
