-- "What each answer must be held to": every contract of the libraries, library by library.
use base.Fml.{Lft}
use Rattle.answers.specs.Held.{Runtime, Opened}
use Rattle.answers.specs.Refusal.{Refusal}
use Rattle.answers.specs.Text.{Text}
use Rattle.answers.specs.Calendar.{Calendar}
use Rattle.answers.specs.Totals.{Totals}
use Rattle.answers.specs.Pan.{Pan}
use Rattle.answers.specs.Lines.{Lines}
use Rattle.answers.specs.CardContent.{CardContent}
use Rattle.answers.specs.CardSale.{CardSale}
use Rattle.answers.specs.CardAdjustment.{CardAdjustment}
use Rattle.answers.specs.CardFrame.{CardFrame}
use Rattle.answers.specs.CardRecord.{CardRecord}
use Rattle.answers.specs.CardRun.{CardRun}
use Rattle.answers.specs.CardFile.{CardFile}
use Rattle.answers.specs.CardMask.{CardMask}
use Rattle.answers.specs.PayrollRecord.{PayrollRecord}
use Rattle.answers.specs.PayrollFile.{PayrollFile}
use Rattle.answers.specs.DaySheet.{DaySheet}
use Rattle.answers.specs.AnswerRows.{AnswerRows}
use Rattle.answers.specs.CFiles.{CFiles}
use Rattle.answers.specs.Cases.{Cases}
use Rattle.answers.specs.Definitions.{Definitions}
use Rattle.answers.specs.Variants.{Variants}
use Rattle.answers.specs.Programs.{Programs}
use Rattle.answers.specs.Saving.{Saving}
use Rattle.answers.specs.Texts.{Texts}
use Rattle.answers.specs.AdjustmentRows.{AdjustmentRows}
use Rattle.answers.specs.FileList.{FileList}
use Rattle.answers.specs.StateNumbers.{StateNumbers}
use Rattle.answers.specs.CRecords.{CRecords}
use Rattle.answers.specs.CChunks.{CChunks}
use Rattle.demands.specs.Demands.{Demands}

pub record HeldToAccount : Type 0 where
  pub refusal : Refusal
  pub text : (κ : Lft) → Text κ
  pub calendar : (κ : Lft) → Calendar κ
  pub totals : Totals
  pub pan : (κ : Lft) → Pan κ
  pub lines : (κ : Lft) → Lines κ
  pub card_content : (κ : Lft) → CardContent κ
  pub card_sale : (κ : Lft) → CardSale κ
  pub card_adjustment : (κ : Lft) → CardAdjustment κ
  pub card_frame : (κ : Lft) → CardFrame κ
  pub card_record : (κ : Lft) → CardRecord κ
  pub card_run : CardRun
  pub card_file_lem : (κ : Lft) → CardFile κ
  pub card_mask : (κ : Lft) → CardMask κ
  pub payroll_record : (κ : Lft) → PayrollRecord κ
  pub payroll_file_lem : (κ : Lft) → PayrollFile κ
  pub day_sheet_lem : (κ : Lft) → DaySheet κ
  pub answer_rows : (κ : Lft) → AnswerRows κ
  pub c_files : (κ : Lft) → CFiles κ
  pub cases : (κ : Lft) → Cases κ
  pub definitions : Definitions
  pub variants : (d : Demands) → Variants d
  pub programs : (κ : Lft) (rt : Runtime) (file : Opened) → Programs κ rt file
  pub saving : (κ : Lft) (rt : Runtime) (file : Opened) → Saving κ rt file
  pub texts : (κ : Lft) → Texts κ
  pub adjustment_rows : (κ : Lft) → AdjustmentRows κ
  pub file_list : (κ : Lft) (rt : Runtime) → FileList κ rt
  pub state_numbers_lem : (κ : Lft) → StateNumbers κ
  pub c_records : (κ : Lft) → CRecords κ
  pub c_chunks : (κ : Lft) → CChunks κ
