-- The contracts of an adjustment are held to one answer, and rule wrong ones out, by computation.
use mathlib.Core.Path.{refl}
use Rattle.refusal.specs.Rules.{first_broken}
use Rattle.text.specs.Alphabet.{allowed, holds_only}
use Rattle.text.specs.Number.{value_from}
use Rattle.text.specs.Literal.{same_bytes, has_byte, one_byte_of}
use Rattle.calendar.specs.Month.{days_in}
use Rattle.calendar.specs.Day.{is_day}
use Rattle.calendar.specs.Time.{is_time}
use Rattle.calendar.specs.When.{when_rules}
use Rattle.pan.specs.CardField.{well_formed}
use Rattle.card_content.specs.Content.{in_set, day_or_zeros_rules, card_or_blanks_rules, content_rules}
use Rattle.card_content.specs.Field.{table_rules, record_rules}
use Rattle.card_adjustment.specs.Aj.{joined_rules}
use Rattle.answers.proofs.Observed.{fault_number, fault_column}
use base.Fml.{Lft}
use Rattle.answers.specs.CardAdjustment.{CardAdjustment}
use Rattle.answers.proofs.Told.{equal, told, bit}

pub card_adjustment : (κ : Lft) → CardAdjustment κ
unfolding first_broken allowed holds_only value_from same_bytes has_byte one_byte_of days_in is_day is_time when_rules well_formed in_set day_or_zeros_rules card_or_blanks_rules content_rules table_rules record_rules joined_rules
card_adjustment κ =
    record {
      fault = λ κs a r r' s s' p q. equal p q;
      fault_width = (refl, told fault_number refl);
      fault_order = (refl, told fault_column refl);
      fault_capture_8 = (refl, told fault_number refl);
      fault_capture_7 = (refl, told fault_number refl);
      fault_type = (refl, told fault_number refl);
      fault_original_date = (refl, told fault_number refl);
      fault_date = (refl, told fault_number refl);
      fault_blank_card = (refl, told fault_number refl);
      fault_mixed_card = (refl, told fault_number refl);
      fault_accent = (refl, told fault_number refl);
      fault_accent_card = (refl, told fault_number refl);
      read = λ κs a r r' s s' p q. equal p q;
      read_gross = (refl, told (λ r. r.amounts.net) refl);
      read_debit = (refl, told (λ r. r.adjustment_type) refl);
      is_credit_lem = λ κs a r r' s s' p q. equal p q;
      is_credit_debit = (refl, told bit refl);
      is_credit_credit = (refl, told bit refl);
      joined_fault = λ κs a r r' s s' p q. equal p q;
      joined_net = (refl, told fault_number refl);
      joined_column = (refl, told fault_column refl);
    }
