-- What is said of a payroll file among many, in a word and in its line.
use Rattle.std.specs.Prelude.{ℕ, List, Ok, Err}
use Rattle.file_list.specs.declared.tally.Said.{Said}
use Rattle.file_list.specs.declared.tally.Said.TheVariants.{Accepted, Refused, Unreadable}
use Rattle.file_list.specs.Line.{unreadable}
use Rattle.payroll_program.specs.Outcome.{PayrollOutcome}
use Rattle.payroll_program.specs.Verdict.{verdict_text}

-- a file without a verdict is unreadable
abbrev pub said_of : PayrollOutcome → Said
said_of (Ok (Ok numbers)) = Accepted
said_of (Ok (Err refusal)) = Refused
said_of (Err mistake) = Unreadable

abbrev pub words_of : PayrollOutcome → List ℕ
words_of (Ok answer) = verdict_text answer
words_of (Err mistake) = unreadable
