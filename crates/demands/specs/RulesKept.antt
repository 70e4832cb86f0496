-- DEMAND 2: accepted exactly when document 01's rules are kept, with the plain numbers.
use Rattle.std.specs.Prelude.{ℕ, ◌≡◌, ◌↔◌, List, true}
use Rattle.card_run.specs.Answer.{card_file_row}
use Rattle.card_file.specs.CardFile.{check_of}
use Rattle.card_kept.specs.Kept.{Kept}
use Rattle.card_kept.specs.Numbers.{Numbers}
use Rattle.payroll_file.specs.Answer.{payroll_row}
use Rattle.payroll_file.specs.PayrollFile.{check_of as payroll_check_of}
use Rattle.payroll_kept.specs.Kept as PayrollFile
use Rattle.payroll_kept.specs.Numbers as PayrollNumbers

-- a card file
pub record CardRulesKept : Type 0 where
  -- "Accepted exactly when 01's rules are kept"
  pub exactly : (edition : ℕ) (bytes : List ℕ) → ((card_file_row (check_of edition bytes)).accepted ≡ true) ↔ Kept edition bytes
  -- "Counts, totals .. are those defined there"
  pub numbers : (edition : ℕ) (bytes : List ℕ) (kept : Kept edition bytes) → Numbers kept.file (card_file_row (check_of edition bytes)).numbers

-- a payroll file
pub record PayrollRulesKept : Type 0 where
  pub exactly : (bytes : List ℕ) → ((payroll_row (payroll_check_of bytes)).accepted ≡ true) ↔ PayrollFile.Kept bytes
  pub numbers : (bytes : List ℕ) (kept : PayrollFile.Kept bytes) → PayrollNumbers.Numbers kept.file (payroll_row (payroll_check_of bytes)).numbers
