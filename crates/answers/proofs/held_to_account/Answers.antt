-- `answers::held_to_account` meets its contract: what each library's contracts are held to, gathered.
use Rattle.answers.proofs.Refusal.{refusal}
use Rattle.answers.proofs.Text.{text}
use Rattle.answers.proofs.Calendar.{calendar}
use Rattle.answers.proofs.Totals.{totals}
use Rattle.answers.proofs.Pan.{pan}
use Rattle.answers.proofs.Lines.{lines}
use Rattle.answers.proofs.CardContent.{card_content}
use Rattle.answers.proofs.CardSale.{card_sale}
use Rattle.answers.proofs.CardAdjustment.{card_adjustment}
use Rattle.answers.proofs.CardFrame.{card_frame}
use Rattle.answers.proofs.CardRecord.{card_record}
use Rattle.answers.proofs.CardRun.{card_run}
use Rattle.answers.proofs.CardFile.{card_file_lem}
use Rattle.answers.proofs.CardMask.{card_mask}
use Rattle.answers.proofs.PayrollRecord.{payroll_record}
use Rattle.answers.proofs.PayrollFile.{payroll_file_lem}
use Rattle.answers.proofs.DaySheet.{day_sheet_lem}
use Rattle.answers.proofs.AnswerRows.{answer_rows}
use Rattle.answers.proofs.CFiles.{c_files}
use Rattle.answers.proofs.Cases.{cases}
use Rattle.answers.proofs.Definitions.{definitions}
use Rattle.answers.proofs.Variants.{variants}
use Rattle.answers.proofs.Programs.{programs}
use Rattle.answers.proofs.Saving.{saving}
use Rattle.answers.proofs.Texts.{texts}
use Rattle.answers.proofs.AdjustmentRows.{adjustment_rows}
use Rattle.answers.proofs.FileList.{file_list}
use Rattle.answers.proofs.StateNumbers.{state_numbers_lem}
use Rattle.answers.proofs.CRecords.{c_records}
use Rattle.answers.proofs.CChunks.{c_chunks}
use Rattle.answers.proofs.held_to_account.Goals as goal

pub returns : goal.returns
returns c =
    record {
      refusal = refusal;
      text = text;
      calendar = calendar;
      totals = totals;
      pan = pan;
      lines = lines;
      card_content = card_content;
      card_sale = card_sale;
      card_adjustment = card_adjustment;
      card_frame = card_frame;
      card_record = card_record;
      card_run = card_run;
      card_file_lem = card_file_lem;
      card_mask = card_mask;
      payroll_record = payroll_record;
      payroll_file_lem = payroll_file_lem;
      day_sheet_lem = day_sheet_lem;
      answer_rows = answer_rows;
      c_files = c_files;
      cases = cases;
      definitions = definitions;
      variants = variants;
      programs = programs;
      saving = saving;
      texts = texts;
      adjustment_rows = adjustment_rows;
      file_list = file_list;
      state_numbers_lem = state_numbers_lem;
      c_records = c_records;
      c_chunks = c_chunks;
    }
