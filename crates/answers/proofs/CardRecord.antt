-- The contracts of reading a card record, the slow way and the quick way are held to one answer, and rule wrong ones out, by computation.
use mathlib.Core.Path.{refl}
use Rattle.refusal.specs.Rules.{first_broken}
use Rattle.text.specs.Alphabet.{allowed, holds_only}
use Rattle.text.specs.Number.{value_from}
use Rattle.text.specs.Literal.{same_bytes, has_byte, one_byte_of}
use Rattle.calendar.specs.Month.{days_in}
use Rattle.calendar.specs.Day.{is_day}
use Rattle.calendar.specs.Time.{is_time}
use Rattle.calendar.specs.When.{when_rules}
use Rattle.pan.specs.CardField.{well_formed}
use Rattle.card_content.specs.Content.{in_set, day_or_zeros_rules, card_or_blanks_rules, content_rules}
use Rattle.card_content.specs.Field.{table_rules, record_rules}
use Rattle.card_record.specs.CardPart.{card_part_found}
use Rattle.card_record.specs.Kind.{kind_named}
use Rattle.card_record.specs.Reading.{right_reading, judged_as, read_found}
use Rattle.answers.proofs.Observed.{kind_read, card_place, reading_read}
use base.Fml.{Lft}
use Rattle.answers.specs.CardRecord.{CardRecord}
use Rattle.answers.proofs.Told.{equal, told}

pub card_record : (κ : Lft) → CardRecord κ
unfolding first_broken allowed holds_only value_from same_bytes has_byte one_byte_of days_in is_day is_time when_rules well_formed in_set day_or_zeros_rules card_or_blanks_rules content_rules table_rules record_rules card_part_found kind_named right_reading judged_as read_found
card_record κ =
    record {
      kind_of_lem = λ κs a r r' s s' p q. equal p q;
      kind_aj = (refl, told kind_read refl);
      kind_aj_sale = (refl, told kind_read refl);
      kind_cc = (refl, told kind_read refl);
      kind_one_byte = (refl, told kind_read refl);
      kind_small = (refl, told kind_read refl);
      kind_width = λ κs a r r' s s' p q. equal p q;
      width_for_all = (refl, told (λ n. n) refl);
      width_adjustment = (refl, told (λ n. n) refl);
      width_line_end = (refl, told (λ n. n) refl);
      card_part_lem = λ κs a r r' s s' p q. equal p q;
      card_from_one = (refl, told card_place refl);
      card_longer = (refl, told card_place refl);
      card_adjustment = (refl, told card_place refl);
      card_as_sale = (refl, told card_place refl);
      card_other_kind = (refl, told card_place refl);
      card_wide_adjustment = (refl, told card_place refl);
      read = λ κs a r r' s s' p q. equal p q;
      read_capture = (refl, told reading_read refl);
      read_launch_type = (refl, told reading_read refl);
      read_day = (refl, told reading_read refl);
      read_check_digit = (refl, told reading_read refl);
      read_accent = (refl, told reading_read refl);
      read_accent_card = (refl, told reading_read refl);
      read_blank_card = (refl, told reading_read refl);
      read_zeros = (refl, told reading_read refl);
      read_adjustment_check_digit = (refl, told reading_read refl);
      quick_read = λ κs a r r' s s' p q. equal p q;
      quick_read_capture = (refl, told reading_read refl);
      quick_read_launch_type = (refl, told reading_read refl);
      quick_read_day = (refl, told reading_read refl);
      quick_read_check_digit = (refl, told reading_read refl);
      quick_read_159 = (refl, told reading_read refl);
      quick_read_accent = (refl, told reading_read refl);
    }
