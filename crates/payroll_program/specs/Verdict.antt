-- What is printed of a payroll file: ACCEPTED and a line for each number of its answer, "records, batches, payments (A records) and amount", or one line
-- of its refusal.
use Rattle.std.specs.Prelude.{ℕ, List, [], ◌∷◌, Ok, Err}
use Rattle.text.specs.Literal.{ascii}
use Rattle.wording.specs.Line.{line_of, refused_line, joined}
use Rattle.files.specs.declared.writing.Standard.{Standard}
use Rattle.payroll_file.specs.declared.answer.Accepted.{Accepted as Numbers}
use Rattle.payroll_file.specs.Answer.{PayrollAnswer}
use Rattle.program.specs.Outcome.{told_text, standard_of}
use Rattle.payroll_program.specs.Outcome.{PayrollOutcome}

unfoldable pub accepted_text : Numbers → List ℕ
accepted_text a =
    joined
    (ascii "ACCEPTED\n" ∷ line_of (ascii "RECORDS") a.records ∷ line_of (ascii "BATCHES") a.batches ∷ line_of (ascii "PAYMENTS") a.payments ∷
    line_of (ascii "AMOUNT") a.amount ∷ [])

abbrev pub verdict_text : PayrollAnswer → List ℕ
verdict_text (Ok numbers) = accepted_text numbers
verdict_text (Err refusal) = refused_line refusal

-- the verdict, or the mistake's sentence
abbrev pub outcome_text : PayrollOutcome → List ℕ
outcome_text = told_text verdict_text

-- a verdict goes to standard output, a mistake to standard error
abbrev pub descriptor_of : PayrollOutcome → Standard
descriptor_of = standard_of
