-- The contracts of A0, L0, L9 and A9 are held to one answer, and rule wrong ones out, by computation.
use mathlib.Core.Path.{refl}
use Rattle.refusal.specs.Rules.{first_broken}
use Rattle.text.specs.Alphabet.{allowed, holds_only}
use Rattle.text.specs.Number.{value_from}
use Rattle.text.specs.Literal.{same_bytes, has_byte, one_byte_of}
use Rattle.calendar.specs.Month.{days_in}
use Rattle.calendar.specs.Day.{is_day}
use Rattle.calendar.specs.Time.{is_time}
use Rattle.calendar.specs.When.{when_rules}
use Rattle.pan.specs.CardField.{well_formed}
use Rattle.card_content.specs.Content.{in_set, content_rules}
use Rattle.card_content.specs.Field.{table_rules, record_rules}
use Rattle.answers.proofs.Observed.{fault_number}
use base.Fml.{Lft}
use Rattle.answers.specs.CardFrame.{CardFrame}
use Rattle.answers.proofs.Told.{equal, told, bit}

pub card_frame : (κ : Lft) → CardFrame κ
unfolding first_broken allowed holds_only value_from same_bytes has_byte one_byte_of days_in is_day is_time when_rules well_formed in_set content_rules table_rules record_rules
card_frame κ =
    record {
      a0_fault = λ κs a r r' s s' p q. equal p q;
      a0_version = (refl, told fault_number refl);
      a0_nseq = (refl, told fault_number refl);
      a0_accent = (refl, told fault_number refl);
      a0_accent_movement = (refl, told fault_number refl);
      a0_read = λ κs a r r' s s' p q. equal p q;
      a0_movement = (refl, told (λ r. r.movement) refl);
      a0_reprocessed = (refl, told (λ r. bit r.reprocessed) refl);
      l0_fault = λ κs a r r' s s' p q. equal p q;
      l0_currency = (refl, told fault_number refl);
      l0_day = (refl, told fault_number refl);
      l0_read = λ κs a r r' s s' p q. equal p q;
      l0_date = (refl, told (λ r. r.nseq) refl);
      l0_from_zero = (refl, told (λ r. r.nseq) refl);
      l9_fault = λ κs a r r' s s' p q. equal p q;
      l9_width = (refl, told fault_number refl);
      l9_blank = (refl, told fault_number refl);
      l9_read = λ κs a r r' s s' p q. equal p q;
      l9_exchanged = (refl, told (λ r. r.count) refl);
      l9_nseq = (refl, told (λ r. r.count) refl);
      a9_fault = λ κs a r r' s s' p q. equal p q;
      a9_width = (refl, told fault_number refl);
      a9_count = (refl, told fault_number refl);
      a9_read = λ κs a r r' s s' p q. equal p q;
      a9_not_itself = (refl, told (λ r. r.count) refl);
      a9_exchanged = (refl, told (λ r. r.count) refl);
    }
