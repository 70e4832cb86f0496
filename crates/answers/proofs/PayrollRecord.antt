-- The contracts of a payroll record are held to one answer, and rule wrong ones out, by computation.
use mathlib.Core.Path.{refl}
use Rattle.refusal.specs.Rules.{first_broken}
use Rattle.text.specs.Alphabet.{allowed, holds_only, first_stray}
use Rattle.text.specs.Number.{value_from}
use Rattle.text.specs.Literal.{same_bytes, has_byte, one_byte_of}
use Rattle.calendar.specs.Month.{days_in}
use Rattle.calendar.specs.Day.{is_day}
use Rattle.calendar.specs.When.{when_rules}
use Rattle.payroll_record.specs.Field.{number_rules}
use Rattle.payroll_record.specs.Front.{stray_at}
use Rattle.payroll_record.specs.Kind.{segment_named, kind_named}
use Rattle.payroll_record.specs.Reading.{read_as, read_found}
use Rattle.answers.proofs.Observed.{fault_number, fault_column, number_read, payroll_kind_read, payroll_reading_read}
use base.Fml.{Lft}
use Rattle.answers.specs.PayrollRecord.{PayrollRecord}
use Rattle.answers.proofs.Told.{equal, told, bit, same_part}

pub payroll_record : (κ : Lft) → PayrollRecord κ
unfolding first_broken allowed holds_only first_stray value_from same_bytes has_byte one_byte_of days_in is_day when_rules number_rules stray_at segment_named kind_named read_as read_found
payroll_record κ =
    record {
      parts = λ κs a r r' s s' p q. same_part p q;
      part_late = (record { holds = refl; block = refl; begins = refl }, λ p. told (λ n. n) refl p.begins);
      part_elsewhere = (record { holds = refl; block = refl; begins = refl }, λ p. told (λ n. n) refl p.begins);
      number = λ κs a r r' s s' p q. equal p q;
      number_cut = (refl, told number_read refl);
      number_blanks = (refl, told number_read refl);
      rule = λ κs a r r' s s' p q. equal p q;
      rule_column = (refl, told fault_column refl);
      rule_held = (refl, told fault_number refl);
      digits_fault = λ κs a r r' s s' p q. equal p q;
      digits_blanks = (refl, told fault_number refl);
      digits_column = (refl, told fault_column refl);
      should_be = λ κs a r r' s s' p q. equal p q;
      should_be_digits = (refl, told fault_number refl);
      should_be_other = (refl, told fault_number refl);
      day_fault = λ κs a r r' s s' p q. equal p q;
      day_year_first = (refl, told fault_number refl);
      day_none = (refl, told fault_number refl);
      front_fault = λ κs a r r' s s' p q. equal p q;
      front_bank = (refl, told fault_number refl);
      front_bank_cause = (refl, told fault_number refl);
      front_stray = (refl, told fault_column refl);
      front_stray_behind = (refl, told fault_number refl);
      kind_of_lem = λ κs a r r' s s' p q. equal p q;
      kind_two = (refl, told payroll_kind_read refl);
      kind_segment = (refl, told payroll_kind_read refl);
      kind_segment_column = (refl, told payroll_kind_read refl);
      header_read = λ κs a r r' s s' p q. equal p q;
      header_code = (refl, told (λ r. fault_number r.fault) refl);
      header_return = (refl, told (λ r. bit r.is_return) refl);
      header_accent = (refl, told (λ r. fault_number r.fault) refl);
      header_accent_column = (refl, told (λ r. fault_column r.fault) refl);
      batch_header_read = λ κs a r r' s s' p q. equal p q;
      batch_header_number = (refl, told (λ r. number_read r.batch) refl);
      batch_header_bank = (refl, told (λ r. fault_number r.front) refl);
      payment_read = λ κs a r r' s s' p q. equal p q;
      payment_amount = (refl, told (λ r. r.amount) refl);
      payment_day = (refl, told (λ r. fault_number r.rest) refl);
      segment_read = λ κs a r r' s s' p q. equal p q;
      segment_amount = (refl, told (λ r. r.amount) refl);
      segment_day = (refl, told (λ r. fault_number r.rest) refl);
      batch_trailer_read = λ κs a r r' s s' p q. equal p q;
      batch_trailer_sum = (refl, told (λ r. number_read r.sum) refl);
      batch_trailer_exchanged = (refl, told (λ r. number_read r.count) refl);
      file_trailer_read = λ κs a r r' s s' p q. equal p q;
      file_trailer_exchanged = (refl, told (λ r. number_read r.batches) refl);
      file_trailer_batch = (refl, told (λ r. fault_number r.front) refl);
      read = λ κs a r r' s s' p q. equal p q;
      read_order = (refl, told payroll_reading_read refl);
      read_longer = (refl, told payroll_reading_read refl);
      read_segment = (refl, told payroll_reading_read refl);
    }
