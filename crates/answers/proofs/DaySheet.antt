-- The contracts of the day sheet and of an edition are held to one answer, and rule wrong ones out, by computation.
use mathlib.Core.Path.{refl}
use lib.ListN.{get_or}
use Rattle.refusal.specs.Rules.{first_broken}
use Rattle.text.specs.Alphabet.{allowed, holds_only}
use Rattle.text.specs.Number.{value_from}
use Rattle.text.specs.Literal.{same_bytes}
use Rattle.calendar.specs.Month.{days_in}
use Rattle.calendar.specs.Day.{is_day}
use Rattle.day_sheet.specs.Number.{in_base, value_in}
use Rattle.day_sheet.specs.Layout.{in_places, from_places, digits_right}
use Rattle.day_sheet.specs.Sheet.{sheet_row, bytes_of}
use Rattle.sheet_numbers.specs.Allowed.{within_limits, set_allowed, sets_allowed, heading_allowed, none_of, split_allowed, sheet_allowed}
use Rattle.day_sheet.specs.Reading.{read_as, read_of}
use Rattle.day_sheet.specs.Writing.{put_answer, put_result, write_answer, write_result}
use Rattle.sheet_numbers.specs.Converted.{converted}
use Rattle.day_sheet.specs.Conversion.{convert_answer, convert_result}
use Rattle.answers.proofs.Observed.{fault_number, version_read, sheet_read, settled_read, edition_of_read, sheet_written, edition_read}
use base.Fml.{Lft}
use Rattle.answers.specs.DaySheet.{DaySheet}
use Rattle.answers.proofs.Told.{equal, told, bit}

pub day_sheet_lem : (κ : Lft) → DaySheet κ
unfolding first_broken allowed holds_only value_from same_bytes days_in is_day in_base value_in in_places from_places digits_right sheet_row bytes_of within_limits set_allowed sets_allowed heading_allowed none_of split_allowed sheet_allowed read_as read_of put_answer put_result write_answer write_result converted convert_answer convert_result
day_sheet_lem κ =
    record {
      puts = λ κs a r r' s s' p q. (refl, equal p q);
      put_low_first = (refl, told (λ s. get_or s 0 0) refl);
      put_blanks = (refl, told (λ s. get_or s 0 0) refl);
      width = λ κs a r r' s s' p q. equal p q;
      width_one = (refl, told (λ n. n) refl);
      width_two = (refl, told (λ n. n) refl);
      version = λ κs a r r' s s' p q. equal p q;
      version_one = (refl, told version_read refl);
      version_two = (refl, told version_read refl);
      edition = λ κs a r r' s s' p q. equal p q;
      edition_version = (refl, told (λ n. n) refl);
      edition_split = (refl, told (λ n. n) refl);
      converted = λ κs a r r' s s' p q. equal p q;
      converted_split = (refl, told (λ s. get_or (sheet_row s) 9 0) refl);
      converted_forecast = (refl, told (λ s. get_or (sheet_row s) 10 0) refl);
      converted_settled = (refl, told (λ s. get_or (sheet_row s) 5 0) refl);
      converted_twice = (refl, told (λ s. get_or (sheet_row s) 5 0) refl);
      is_allowed = λ κs a r r' s s' p q. equal p q;
      allowed_edition = (refl, told bit refl);
      allowed_old = (refl, told bit refl);
      allowed_net = (refl, told bit refl);
      allowed_agree = (refl, told bit refl);
      allowed_both = (refl, told bit refl);
      allowed_count = (refl, told bit refl);
      allowed_split = (refl, told bit refl);
      allowed_unknown = (refl, told bit refl);
      allowed_unknown_count = (refl, told bit refl);
      allowed_none = (refl, told bit refl);
      row = λ κs a r r' s s' p q. equal p q;
      row_exchanged = (refl, told (λ s. get_or s 5 0) refl);
      row_split = (refl, told (λ s. get_or s 9 0) refl);
      totals_from = λ κs a r r' s s' p q. equal p q;
      totals_late = (refl, told (λ t. t.sales) refl);
      totals_exchanged = (refl, told (λ t. t.amounts.gross) refl);
      sheet_of_lem = λ κs a r r' s s' p q. equal p q;
      sheet_of_version = (refl, told (λ s. get_or (sheet_row s) 0 0) refl);
      sheet_of_exchanged = (refl, told (λ s. get_or (sheet_row s) 5 0) refl);
      read = λ κs a r r' s s' p q. equal p q;
      read_refused = (refl, told sheet_read refl);
      read_one_sheet = (refl, told sheet_read refl);
      read_mark = (refl, told sheet_read refl);
      read_disagreeing = (refl, told sheet_read refl);
      read_old = (refl, told sheet_read refl);
      read_old_two = (refl, told sheet_read refl);
      read_old_edition = (refl, told edition_of_read refl);
      read_version = (refl, told sheet_read refl);
      read_version_one = (refl, told sheet_read refl);
      read_two = (refl, told sheet_read refl);
      read_exchanged = (refl, told settled_read refl);
      read_added = (refl, told settled_read refl);
      read_short = (refl, told sheet_read refl);
      read_split = (refl, told sheet_read refl);
      read_both = (refl, told sheet_read refl);
      write = λ κs a r r' s s' p q. (equal p.answers q.answers, equal p.leaves q.leaves);
      write_refused = (record { answers = refl; leaves = refl }, λ p. told sheet_written refl p.answers);
      write_past = (record { answers = refl; leaves = refl }, λ p. told (λ s. get_or s 52 0) refl p.leaves);
      write_past_two = (record { answers = refl; leaves = refl }, λ p. told (λ s. get_or s 81 0) refl p.leaves);
      write_order = (record { answers = refl; leaves = refl }, λ p. told sheet_written refl p.answers);
      write_order_two = (record { answers = refl; leaves = refl }, λ p. told sheet_written refl p.answers);
      write_short = (record { answers = refl; leaves = refl }, λ p. told (λ s. get_or s 0 0) refl p.leaves);
      write_short_two = (record { answers = refl; leaves = refl }, λ p. told sheet_written refl p.answers);
      write_split = (record { answers = refl; leaves = refl }, λ p. told (λ s. get_or s 52 0) refl p.leaves);
      write_exchanged = (record { answers = refl; leaves = refl }, λ p. told (λ s. get_or s 27 0) refl p.leaves);
      write_low_first = (record { answers = refl; leaves = refl }, λ p. told (λ s. get_or s 53 0) refl p.leaves);
      write_old = (record { answers = refl; leaves = refl }, λ p. told sheet_written refl p.answers);
      write_old_two = (record { answers = refl; leaves = refl }, λ p. told sheet_written refl p.answers);
      write_old_numbers = (record { answers = refl; leaves = refl }, λ p. told sheet_written refl p.answers);
      write_old_short = (record { answers = refl; leaves = refl }, λ p. told sheet_written refl p.answers);
      write_3 = (record { answers = refl; leaves = refl }, λ p. told sheet_written refl p.answers);
      convert = λ κs a r r' s s' p q. (equal p.answers q.answers, equal p.leaves q.leaves);
      convert_split = (record { answers = refl; leaves = refl }, λ p. told (λ s. get_or s 52 0) refl p.leaves);
      convert_unreadable = (record { answers = refl; leaves = refl }, λ p. told (λ s. get_or s 0 0) refl p.leaves);
      convert_order = (record { answers = refl; leaves = refl }, λ p. told sheet_written refl p.answers);
      convert_no_sheet = (record { answers = refl; leaves = refl }, λ p. told sheet_written refl p.answers);
      convert_short = (record { answers = refl; leaves = refl }, λ p. told sheet_written refl p.answers);
      convert_room = (record { answers = refl; leaves = refl }, λ p. told sheet_written refl p.answers);
      convert_past = (record { answers = refl; leaves = refl }, λ p. told (λ s. get_or s 52 0) refl p.leaves);
      convert_settled = (record { answers = refl; leaves = refl }, λ p. told (λ s. get_or s 27 0) refl p.leaves);
      convert_same = (record { answers = refl; leaves = refl }, λ p. told (λ s. get_or s 4 0) refl p.leaves);
      convert_old = (record { answers = refl; leaves = refl }, λ p. told sheet_written refl p.answers);
      convert_old_edition = (record { answers = refl; leaves = refl }, λ p. told (λ s. get_or s 5 0) refl p.leaves);
      is_retired = λ κs a r r' s s' p q. equal p q;
      is_retired_257 = (refl, told bit refl);
      is_retired_2 = (refl, told bit refl);
      is_retired_1 = (refl, told bit refl);
      edition_fault_lem = λ κs a r r' s s' p q. equal p q;
      edition_fault_258 = (refl, told fault_number refl);
      edition_fault_3 = (refl, told fault_number refl);
      edition_fault_1 = (refl, told fault_number refl);
      edition_fault_none = (refl, told fault_number refl);
      edition_fault_2 = (refl, told fault_number refl);
      edition_of_lem = λ κs a r r' s s' p q. equal p q;
      edition_wraps = (refl, told edition_read refl);
      edition_nothing = (refl, told edition_read refl);
      edition_sign = (refl, told edition_read refl);
    }
