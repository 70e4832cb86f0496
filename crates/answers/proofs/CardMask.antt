-- The contracts of the masked copy, the field question and a file's day sheet are held to one answer, and rule wrong ones out, by computation.
use mathlib.Core.Path.{refl}
use Rattle.refusal.specs.Rules.{first_broken}
use Rattle.text.specs.Alphabet.{allowed, holds_only}
use Rattle.text.specs.Number.{value_from}
use Rattle.text.specs.Literal.{same_bytes, has_byte, one_byte_of}
use Rattle.calendar.specs.Month.{days_in}
use Rattle.calendar.specs.Day.{is_day}
use Rattle.calendar.specs.Time.{is_time}
use Rattle.calendar.specs.When.{when_rules}
use Rattle.pan.specs.CardField.{well_formed}
use Rattle.card_content.specs.Content.{in_set, content_rules}
use Rattle.card_content.specs.Field.{table_rules, record_rules}
use Rattle.card_sale.specs.Cv.{joined_rules}
use Rattle.card_record.specs.Kind.{kind_named}
use Rattle.card_record.specs.Reading.{right_reading, judged_as, read_found}
use Rattle.card_run.specs.Answer.{answer_at}
use Rattle.card_run.specs.Running.{closed_at, late_at}
use Rattle.card_step.specs.Rules.{joined_at, rules_of}
use Rattle.card_step.specs.Behind.{behind}
use Rattle.card_step.specs.Step.{behind_or_refused, took_at}
use Rattle.lines.specs.Lines.{in_front, cut, joined, ends_in_cr, without_last}
use Rattle.card_file.specs.CardFile.{unended_at, lines_of, end_of}
use lib.ListN.{get_or}
use Rattle.lines.specs.Lines.{rejoined}
use Rattle.pan.specs.CardField.{leading_zeros}
use Rattle.pan.specs.HiddenPlaces.{hidden_places}
use Rattle.pan.specs.Masked.{star_where}
use Rattle.card_record.specs.CardPart.{card_part_found}
use Rattle.card_mask.specs.Masked.{masked_at}
use Rattle.card_file.specs.Room.{answer_with_room}
use Rattle.card_mask.specs.Mask.{masked_into}
use Rattle.sale_field.specs.Field.{refusal_of, part_as, place_as}
use Rattle.day_sheet.specs.Number.{in_base}
use Rattle.day_sheet.specs.Layout.{in_places}
use Rattle.day_sheet.specs.Sheet.{sheet_row, bytes_of}
use Rattle.sheet_numbers.specs.Converted.{converted}
use Rattle.card_sheet.specs.SheetOf.{sheet_into}
use Rattle.answers.proofs.Observed.{answer_read, field_read}
use base.Fml.{Lft}
use Rattle.answers.specs.CardMask.{CardMask}
use Rattle.answers.proofs.Told.{equal, told, same_part}

pub card_mask : (κ : Lft) → CardMask κ
unfolding first_broken allowed holds_only value_from same_bytes has_byte one_byte_of days_in is_day is_time when_rules well_formed in_set content_rules table_rules record_rules joined_rules kind_named right_reading judged_as read_found answer_at joined_at rules_of behind behind_or_refused took_at closed_at in_front cut joined ends_in_cr without_last unended_at lines_of end_of rejoined leading_zeros hidden_places star_where card_part_found masked_at answer_with_room masked_into refusal_of part_as place_as in_base in_places sheet_row bytes_of converted sheet_into late_at
card_mask κ =
    record {
      mask_lines = λ κs a r r' s s' p q. (equal p.counts q.counts, equal p.leaves q.leaves);
      lines_unfinished = (record { counts = refl; leaves = refl }, λ p. told (λ n. n) refl p.counts);
      lines_unmasked = (record { counts = refl; leaves = refl }, λ p. told (λ s. get_or s 96 0) refl p.leaves);
      lines_adjustment = (record { counts = refl; leaves = refl }, λ p. told (λ s. get_or s 171 0) refl p.leaves);
      lines_as_sale = (record { counts = refl; leaves = refl }, λ p. told (λ s. get_or s 96 0) refl p.leaves);
      lines_blank_card = (record { counts = refl; leaves = refl }, λ p. told (λ s. get_or s 168 0) refl p.leaves);
      mask = λ κs a r r' s s' p q. (equal p.answers q.answers, equal p.leaves q.leaves);
      mask_none = (record { answers = refl; leaves = refl }, λ p. told (λ s. get_or s 193 0) refl p.leaves);
      mask_refused = (record { answers = refl; leaves = refl }, λ p. told (λ s. get_or s 0 0) refl p.leaves);
      mask_short = (record { answers = refl; leaves = refl }, λ p. told (λ s. get_or s 0 0) refl p.leaves);
      mask_order = (record { answers = refl; leaves = refl }, λ p. told answer_read refl p.answers);
      mask_order_retired = (record { answers = refl; leaves = refl }, λ p. told answer_read refl p.answers);
      mask_retired = (record { answers = refl; leaves = refl }, λ p. told answer_read refl p.answers);
      field_answer = λ κs a r r' s s' p q. equal p q;
      field_card = (refl, told field_read refl);
      field_longer = (refl, told field_read refl);
      field_adjustment = (refl, told field_read refl);
      field_order = (refl, told field_read refl);
      field = λ κs a r r' s s' p q. same_part p q;
      field_is_card = (record { holds = refl; block = refl; begins = refl }, λ p. told (λ n. n) refl p.begins);
      field_behind = (record { holds = refl; block = refl; begins = refl }, λ p. told (λ n. n) refl p.begins);
      field_elsewhere = (record { holds = refl; block = refl; begins = refl }, λ p. told (λ n. n) refl p.begins);
      place = λ κs a r r' s s' p q. equal p q;
      place_card = (refl, told (λ n. n) refl);
      place_from_one = (refl, told (λ n. n) refl);
      place_last = (refl, told (λ n. n) refl);
      sheet_from_lem = λ κs a r r' s s' p q. equal p q;
      sheet_edition_lem = (refl, told (λ s. get_or (sheet_row s) 1 0) refl);
      sheet_records = (refl, told (λ s. get_or (sheet_row s) 4 0) refl);
      sheet_split = (refl, told (λ s. get_or (sheet_row s) 9 0) refl);
      sheet_added = (refl, told (λ s. get_or (sheet_row s) 5 0) refl);
      sheet_settled = (refl, told (λ s. get_or (sheet_row s) 10 0) refl);
      sheet_exchanged = (refl, told (λ s. get_or (sheet_row s) 5 0) refl);
      sheet_version = (refl, told (λ s. get_or (sheet_row s) 0 0) refl);
      sheet_of_lem = λ κs a r r' s s' p q. (equal p.answers q.answers, equal p.leaves q.leaves);
      sheet_of_edition = (record { answers = refl; leaves = refl }, λ p. told (λ s. get_or s 5 0) refl p.leaves);
      sheet_of_retired = (record { answers = refl; leaves = refl }, λ p. told answer_read refl p.answers);
      sheet_of_order = (record { answers = refl; leaves = refl }, λ p. told answer_read refl p.answers);
      sheet_of_past = (record { answers = refl; leaves = refl }, λ p. told (λ s. get_or s 81 0) refl p.leaves);
      sheet_of_refused = (record { answers = refl; leaves = refl }, λ p. told (λ s. get_or s 0 0) refl p.leaves);
      sheet_of_short = (record { answers = refl; leaves = refl }, λ p. told answer_read refl p.answers);
      sheet_of_short_one = (record { answers = refl; leaves = refl }, λ p. told answer_read refl p.answers);
      sheet_of_split = (record { answers = refl; leaves = refl }, λ p. told (λ s. get_or s 52 0) refl p.leaves);
      sheet_of_forecast = (record { answers = refl; leaves = refl }, λ p. told (λ s. get_or s 27 0) refl p.leaves);
    }
