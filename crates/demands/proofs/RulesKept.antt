-- Demand 2, from the crates that prove its parts: what they say of answers, said of their rows.
use Prim.Native.Nat.{ℕ}
use mathlib.Core.Path.{sym, ap, subst}
use mathlib.Core.List.{List}
use Rattle.card_run.specs.Answer.{card_file_row}
use Rattle.card_run.proofs.FileRows.{is_accepted_lem}
use Rattle.card_file.specs.CardFile.{check_of}
use Rattle.card_kept.specs.Kept.{Kept}
use Rattle.card_kept.specs.Numbers.{Numbers}
use Rattle.card_kept.proofs.KeptMeansKept.{kept_means_kept, plain_numbers_lem}
use Rattle.payroll_file.specs.Answer.{payroll_row}
use Rattle.payroll_file.proofs.FileRows as PayrollRows
use Rattle.payroll_kept.specs.Numbers as PayrollNumbers
use Rattle.payroll_kept.proofs.KeptMeansKept as payroll
use Rattle.demands.specs.RulesKept.{CardRulesKept, PayrollRulesKept}

pub card_numbers_lem : (edition : ℕ) (bytes : List ℕ) (kept : Kept edition bytes) → Numbers kept.file (card_file_row (check_of edition bytes)).numbers
unfolding card_file_row
card_numbers_lem edition bytes kept =
    let accepts = (kept_means_kept edition bytes).1 kept in
    subst (Numbers kept.file) (sym (ap (λ answer. (card_file_row answer).numbers) accepts.answer))
    (plain_numbers_lem edition bytes accepts.numbers accepts.answer kept)

pub card_rules_kept : CardRulesKept
unfolding card_file_row
card_rules_kept =
    record {
      exactly = λ edition bytes.
          let law = kept_means_kept edition bytes in (
            λ h. law.0 (record { numbers = _; answer = is_accepted_lem _ h }),
            λ kept. ap (λ answer. (card_file_row answer).accepted) (law.1 kept).answer,
          );
      numbers = card_numbers_lem;
    }

pub payroll_rules_kept : PayrollRulesKept
unfolding payroll_row
payroll_rules_kept =
    record {
      exactly = λ bytes.
          let law = payroll.kept_means_kept bytes in (
            λ h. law.0 (record { numbers = _; answer = PayrollRows.is_accepted_lem _ h }),
            λ kept. ap (λ answer. (payroll_row answer).accepted) (law.1 kept).answer,
          );
      numbers = λ bytes kept.
          let accepts = (payroll.kept_means_kept bytes).1 kept in
          subst (PayrollNumbers.Numbers kept.file) (sym (ap (λ answer. (payroll_row answer).numbers) accepts.answer))
          (payroll.plain_numbers_lem bytes accepts.numbers accepts.answer kept);
    }
