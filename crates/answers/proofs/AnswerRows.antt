-- The contracts of the rows of answers are held to one answer, and rule wrong ones out, by computation.
use mathlib.Core.Path.{refl}
use lib.ListN.{get_or}
use Rattle.text.specs.Literal.{same_bytes}
use Rattle.card_run.specs.Answer.{card_file_row}
use Rattle.payroll_file.specs.Answer.{payroll_row}
use Rattle.payroll_stream.specs.Stream.{progress_row}
use Rattle.day_sheet.specs.Answer.{read_row, written_row}
use Rattle.day_sheet.specs.Sheet.{sheet_row}
use Rattle.sale_field.specs.Field.{refusal_of, part_as, place_as, field_row}
use base.Fml.{Lft}
use Rattle.answers.specs.AnswerRows.{AnswerRows}
use Rattle.answers.proofs.Told.{equal, told}

pub answer_rows : (κ : Lft) → AnswerRows κ
unfolding same_bytes card_file_row payroll_row progress_row sheet_row refusal_of part_as place_as field_row read_row written_row
answer_rows κ =
    record {
      card_row = λ κs a r r' s s' p q. equal p q;
      card_net = (refl, told (λ s. get_or s 14 0) refl);
      card_forecast = (refl, told (λ s. get_or s 7 0) refl);
      card_debits = (refl, told (λ s. get_or s 15 0) refl);
      card_column = (refl, told (λ s. get_or s 2 0) refl);
      card_going_on = (refl, told (λ s. get_or s 19 0) refl);
      payroll_row_lem = λ κs a r r' s s' p q. equal p q;
      payroll_accepted_lem = (refl, told (λ s. get_or s 7 0) refl);
      payroll_exchanged = (refl, told (λ s. get_or s 1 0) refl);
      progress_row_lem = λ κs a r r' s s' p q. equal p q;
      progress_early = (refl, told (λ s. get_or s 0 0) refl);
      progress_not_told = (refl, told (λ s. get_or s 0 0) refl);
      sheet_row_lem = λ κs a r r' s s' p q. equal p q;
      sheet_exchanged = (refl, told (λ s. get_or s 8 0) refl);
      sheet_zeros = (refl, told (λ s. get_or s 0 0) refl);
      written_row = λ κs a r r' s s' p q. equal p q;
      written_not_told = (refl, told (λ s. get_or s 0 0) refl);
      written_one = (refl, told (λ s. get_or s 0 0) refl);
      field_row = λ κs a r r' s s' p q. equal p q;
      field_card = (refl, told (λ s. get_or s 0 0) refl);
      field_from_one = (refl, told (λ s. get_or s 3 0) refl);
      field_last = (refl, told (λ s. get_or s 4 0) refl);
    }
