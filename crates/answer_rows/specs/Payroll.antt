-- Document 01's row of a payroll file's answer as eight numbers: the refusal, the file's numbers, and last whether the file is accepted.
use Rattle.std.specs.Prelude.{ℕ, List, [], ◌∷◌, ◌++◌}
use Rattle.payroll_file.specs.Answer.{PayrollAnswer, PayrollRow, payroll_row}
use Rattle.payroll_stream.specs.Stream.{PayrollProgress, progress_row}
use Rattle.answer_rows.specs.Row.{refusal_as_list, as_number}

abbrev pub payroll_row_as_list : PayrollRow → List ℕ
payroll_row_as_list row =
    let n = row.numbers in
    refusal_as_list row.refusal ++ (n.records ∷ n.batches ∷ n.payments ∷ n.amount ∷ as_number row.accepted ∷ [])

abbrev pub payroll_numbers : PayrollAnswer → List ℕ
payroll_numbers answer = payroll_row_as_list (payroll_row answer)

-- the same of the answer so far: a file that goes on has zeros alone
abbrev pub progress_numbers : PayrollProgress → List ℕ
progress_numbers progress = payroll_row_as_list (progress_row progress)
