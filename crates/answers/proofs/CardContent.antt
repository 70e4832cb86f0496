-- The contracts of a card record's fields are held to one answer, and rule wrong ones out, by computation.
use mathlib.Core.Path.{refl}
use Rattle.refusal.specs.Rules.{first_broken}
use Rattle.text.specs.Alphabet.{allowed, holds_only}
use Rattle.text.specs.Number.{value_from}
use Rattle.text.specs.Literal.{same_bytes, has_byte, one_byte_of}
use Rattle.calendar.specs.Month.{days_in}
use Rattle.calendar.specs.Day.{is_day}
use Rattle.calendar.specs.Time.{is_time}
use Rattle.calendar.specs.When.{when_rules}
use Rattle.pan.specs.CardField.{well_formed}
use Rattle.card_content.specs.Content.{in_set, day_or_zeros_rules, card_or_blanks_rules, content_rules}
use Rattle.answers.proofs.Observed.{fault_number, fault_column}
use base.Fml.{Lft}
use Rattle.answers.specs.CardContent.{CardContent}
use Rattle.answers.proofs.Told.{equal, told, bit, same_part}

pub card_content : (κ : Lft) → CardContent κ
unfolding first_broken allowed holds_only value_from same_bytes has_byte one_byte_of days_in is_day is_time when_rules well_formed in_set day_or_zeros_rules card_or_blanks_rules content_rules
card_content κ =
    record {
      is_in_set = λ κs a r r' s s' p q. equal p q;
      set_capture_7 = (refl, told bit refl);
      set_capture_0 = (refl, told bit refl);
      set_capture_row = (refl, told bit refl);
      set_version = (refl, told bit refl);
      set_currency = (refl, told bit refl);
      set_adjustment_8 = (refl, told bit refl);
      set_adjustment_7 = (refl, told bit refl);
      set_adjustment_type = (refl, told bit refl);
      fault_of_lem = λ κs a r r' s s' p q. equal p q;
      fault_of_set = (refl, told fault_number refl);
      fault_of_card = (refl, told fault_number refl);
      fault_of_day = (refl, told fault_number refl);
      fault_of_127 = (refl, told fault_number refl);
      fault_of_159 = (refl, told fault_number refl);
      fault_of_160 = (refl, told fault_number refl);
      fault_of_accent_card = (refl, told fault_number refl);
      fault_of_accent_product = (refl, told fault_number refl);
      fault_of_accent_currency = (refl, told fault_number refl);
      fault_of_zeros = (refl, told fault_number refl);
      fault_of_no_day = (refl, told fault_number refl);
      fault_of_no_zeros = (refl, told fault_number refl);
      fault_of_blanks = (refl, told fault_number refl);
      fault_of_mixed = (refl, told fault_number refl);
      fault_of_no_blanks = (refl, told fault_number refl);
      parts = λ κs a r r' s s' p q. same_part p q;
      part_late = (record { holds = refl; block = refl; begins = refl }, λ p. told (λ n. n) refl p.begins);
      part_elsewhere = (record { holds = refl; block = refl; begins = refl }, λ p. told (λ n. n) refl p.begins);
      fault = λ κs a r r' s s' p q. equal p q;
      fault_edition = (refl, told fault_number refl);
      fault_column_lem = (refl, told fault_column refl);
      number = λ κs a r r' s s' p q. equal p q;
      number_cut = (refl, told (λ n. n) refl);
      number_neighbour = (refl, told (λ n. n) refl);
      rule = λ κs a r r' s s' p q. equal p q;
      rule_column = (refl, told fault_column refl);
      rule_held = (refl, told fault_number refl);
    }
