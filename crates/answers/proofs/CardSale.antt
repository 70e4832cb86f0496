-- The contracts of a sale are held to one answer, and rule wrong ones out, by computation.
use mathlib.Core.Path.{refl}
use Rattle.refusal.specs.Rules.{first_broken}
use Rattle.text.specs.Alphabet.{allowed, holds_only}
use Rattle.text.specs.Number.{value_from}
use Rattle.text.specs.Literal.{same_bytes, has_byte, one_byte_of}
use Rattle.calendar.specs.Month.{days_in}
use Rattle.calendar.specs.Day.{is_day}
use Rattle.calendar.specs.Time.{is_time}
use Rattle.calendar.specs.When.{when_rules}
use Rattle.pan.specs.CardField.{well_formed}
use Rattle.card_content.specs.Content.{in_set, content_rules}
use Rattle.card_content.specs.Field.{table_rules, record_rules}
use Rattle.card_sale.specs.Cv.{joined_rules}
use Rattle.answers.proofs.Observed.{fault_number, fault_column}
use base.Fml.{Lft}
use Rattle.answers.specs.CardSale.{CardSale}
use Rattle.answers.proofs.Told.{equal, told, bit}

pub card_sale : (κ : Lft) → CardSale κ
unfolding first_broken allowed holds_only value_from same_bytes has_byte one_byte_of days_in is_day is_time when_rules well_formed in_set content_rules table_rules record_rules joined_rules
card_sale κ =
    record {
      fault = λ κs a r r' s s' p q. equal p q;
      fault_width = (refl, told fault_number refl);
      fault_order = (refl, told fault_column refl);
      fault_capture = (refl, told fault_number refl);
      read = λ κs a r r' s s' p q. equal p q;
      read_gross = (refl, told (λ r. r.sale.net) refl);
      read_instalment = (refl, told (λ r. r.sale.gross) refl);
      read_launch_type = (refl, told (λ r. r.launch_type) refl);
      is_forecast_lem = λ κs a r r' s s' p q. equal p q;
      forecast_advanced = (refl, told bit refl);
      forecast_normal = (refl, told bit refl);
      forecast_none = (refl, told bit refl);
      has_instalment_lem = λ κs a r r' s s' p q. equal p q;
      instalment_only = (refl, told bit refl);
      instalment_cash = (refl, told bit refl);
      payable = λ κs a r r' s s' p q. equal p q;
      payable_sale = (refl, told (λ r. r.gross) refl);
      payable_cash = (refl, told (λ r. r.gross) refl);
      joined_fault = λ κs a r r' s s' p q. equal p q;
      joined_net = (refl, told fault_number refl);
      joined_instalment = (refl, told fault_number refl);
      joined_discount = (refl, told fault_number refl);
      joined_paid = (refl, told fault_number refl);
    }
