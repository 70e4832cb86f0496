-- The contracts of the questions that C asks of whole files, day sheets and sales are held to one outcome, and rule wrong ones out: each is its library's question, told as a row.
use Prim.Native.Nat.{ℕ}
use mathlib.Core.Path.{◌≡◌, refl, sym, ap, ◌∙◌}
use mathlib.Core.List.{List}
use mathlib.Core.Bool.{false}
use lib.Dec.{eqb}
use lib.ListN.{get_or}
use Rattle.lines.specs.Lines.{joined}
use Rattle.card_run.specs.Answer.{card_file_row}
use Rattle.card_mask.specs.Mask.{Masks}
use Rattle.card_sheet.specs.SheetOf.{SheetOf}
use Rattle.payroll_file.specs.Answer.{payroll_row}
use Rattle.sheet_numbers.specs.declared.sheet.Sheet.{Sheet}
use Rattle.day_sheet.specs.Answer.{read_row, written_row}
use Rattle.day_sheet.specs.Number.{in_base}
use Rattle.day_sheet.specs.Layout.{in_places}
use Rattle.day_sheet.specs.Sheet.{sheet_row, bytes_of}
use Rattle.day_sheet.specs.Writing.{Writes}
use Rattle.day_sheet.specs.Conversion.{Converts}
use Rattle.answer_rows.specs.Card.{card_numbers}
use Rattle.answer_rows.specs.Payroll.{payroll_numbers}
use Rattle.answer_rows.specs.Sheet.{sheet_numbers, written_numbers}
use Rattle.c_files.specs.Told.{Told}
use base.Fml.{Lft}
use Rattle.answers.specs.CFiles.{CFiles}
use Rattle.answers.proofs.Told.{equal, told}
use Rattle.answers.proofs.CardFile.{card_file_lem}
use Rattle.answers.proofs.CardMask.{card_mask}
use Rattle.answers.proofs.PayrollFile.{payroll_file_lem}
use Rattle.answers.proofs.DaySheet.{day_sheet_lem}
use Rattle.answers.proofs.AnswerRows.{answer_rows}

-- an answer's own row, and one that differs from it in number k
in_row : {A : Type 0} (numbers : A → List ℕ) {right asked : A} → right ≡ asked → (k : ℕ) {wrong : List ℕ} →
    eqb (get_or wrong k 0) (get_or (numbers right) k 0) ≡ false → (numbers right ≡ numbers asked) × (wrong ≡ numbers asked → ⊥)
in_row numbers e k apart = (ap numbers e, λ w. told (λ row. get_or row k 0) apart (w ∙ ap numbers (sym e)))

-- what is promised of an answer and an output holds of one answer and one output
abbrev OnePromise : {A : Type 0} → (A → List ℕ → Type 0) → Type 0
OnePromise {A} promised = (a b : A) (s t : List ℕ) → promised a s → promised b t → (a ≡ b) × (s ≡ t)

module _ {A : Type 0} (numbers : A → List ℕ) {promised : A → List ℕ → Type 0} (once : OnePromise promised) where
  one_outcome : {row row' out out' : List ℕ} → Told numbers promised row out → Told numbers promised row' out' → (row ≡ row') × (out ≡ out')
  one_outcome p q =
      let e = once _ _ _ _ p.as_promised q.as_promised in
      (p.in_row ∙ ap numbers e.0 ∙ sym q.in_row, e.1)

  -- a right outcome, and one that differs from it in row or output
  apart : {right : A} {out row after : List ℕ} → promised right out → ((row ≡ numbers right) × (after ≡ out) → ⊥) →
      Told numbers promised (numbers right) out × (Told numbers promised row after → ⊥)
  apart {right} {out} good differs =
      let is : Told numbers promised (numbers right) out = record { answer = right; in_row = refl; as_promised = good } in
      (is, λ p. differs (one_outcome p is))

-- of the four questions that write
masks : (edition : ℕ) (file out : List ℕ) → OnePromise (Masks edition file out)
masks edition file out a b s t p q = (equal p.answers q.answers, equal p.leaves q.leaves)

sheets : (edition : ℕ) (file out : List ℕ) → OnePromise (SheetOf edition file out)
sheets edition file out a b s t p q = (equal p.answers q.answers, equal p.leaves q.leaves)

writes : (sheet : Sheet) (out : List ℕ) → OnePromise (Writes sheet out)
writes sheet out a b s t p q = (equal p.answers q.answers, equal p.leaves q.leaves)

converts : (bytes out : List ℕ) → OnePromise (Converts bytes out)
converts bytes out a b s t p q = (equal p.answers q.answers, equal p.leaves q.leaves)

pub c_files : (κ : Lft) → CFiles κ
unfolding joined card_file_row payroll_row in_base in_places sheet_row bytes_of read_row written_row
c_files κ =
    record {
      card_check = λ κs a r r' s s' p q. (refl, equal p q);
      card_check_unwritten = in_row card_numbers (card_file_lem κ).check_refused.0 0 refl;
      card_check_258 = in_row card_numbers (card_file_lem κ).check_258.0 0 refl;
      card_mask = λ κs a r r' s s' p q. one_outcome card_numbers (masks _ _ _) p q;
      card_mask_none = apart card_numbers (masks _ _ _) (card_mask κ).mask_none.0 (λ e. told (λ s. get_or s 193 0) refl e.1);
      card_mask_refused = apart card_numbers (masks _ _ _) (card_mask κ).mask_refused.0 (λ e. told (λ s. get_or s 0 0) refl e.1);
      card_mask_not_told = apart card_numbers (masks _ _ _) (card_mask κ).mask_short.0 (λ e. told (λ s. get_or s 0 0) refl e.0);
      card_sheet = λ κs a r r' s s' p q. one_outcome card_numbers (sheets _ _ _) p q;
      card_sheet_edition = apart card_numbers (sheets _ _ _) (card_mask κ).sheet_of_edition.0 (λ e. told (λ s. get_or s 5 0) refl e.1);
      card_sheet_short = apart card_numbers (sheets _ _ _) (card_mask κ).sheet_of_short.0 (λ e. told (λ s. get_or s 0 0) refl e.0);
      payroll_check = λ κs a r r' s s' p q. (refl, equal p q);
      payroll_check_unwritten = in_row payroll_numbers (payroll_file_lem κ).check_refused.0 0 refl;
      payroll_check_refused = in_row payroll_numbers (payroll_file_lem κ).check_first_record.0 3 refl;
      sale_field = λ κs a r r' s s' p q. (refl, equal p q);
      sale_field_card = (answer_rows κ).field_card;
      sale_field_from_one = (answer_rows κ).field_from_one;
      sheet_read_lem = λ κs a r r' s s' p q. (refl, equal p q);
      sheet_read_unwritten = in_row sheet_numbers (day_sheet_lem κ).read_two.0 0 refl;
      sheet_read_refused = in_row sheet_numbers (day_sheet_lem κ).read_disagreeing.0 3 refl;
      sheet_write_1 = λ κs a r r' s s' p q. one_outcome written_numbers (writes _ _) p q;
      sheet_write_1_unwritten = apart written_numbers (writes _ _) (day_sheet_lem κ).write_refused.0 (λ e. told (λ s. get_or s 0 0) refl e.1);
      sheet_write_1_not_told = apart written_numbers (writes _ _) (day_sheet_lem κ).write_order.0 (λ e. told (λ s. get_or s 0 0) refl e.0);
      sheet_write_2 = λ κs a r r' s s' p q. one_outcome written_numbers (writes _ _) p q;
      sheet_write_2_exchanged = apart written_numbers (writes _ _) (day_sheet_lem κ).write_split.0 (λ e. told (λ s. get_or s 27 0) refl e.1);
      sheet_write_2_short = apart written_numbers (writes _ _) (day_sheet_lem κ).write_short_two.0 (λ e. told (λ s. get_or s 0 0) refl e.0);
      sheet_convert = λ κs a r r' s s' p q. one_outcome written_numbers (converts _ _) p q;
      sheet_convert_same = apart written_numbers (converts _ _) (day_sheet_lem κ).convert_same.0 (λ e. told (λ s. get_or s 4 0) refl e.1);
      sheet_convert_unreadable = apart written_numbers (converts _ _) (day_sheet_lem κ).convert_unreadable.0 (λ e. told (λ s. get_or s 0 0) refl e.0);
    }
