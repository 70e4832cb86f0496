-- What is promised of an outcome: an answer is that of reading some bytes whole. That they are the file's is the system call's affair, and no contract can say it.
use Rattle.std.specs.Prelude.{ℕ, ◌≡◌, List, Ok, Err}
use Rattle.payroll_file.specs.PayrollFile.{check_of}
use Rattle.program.specs.declared.mistake.Failed.{Failed}
use Rattle.program.specs.declared.mistake.Mistake.TheVariants.{System}
use Rattle.payroll_program.specs.Outcome.{PayrollOutcome}

-- a mistake is one of the files, and none of the arguments
abbrev pub Checked : PayrollOutcome → Type 0
Checked (Ok answer) = (bytes : List ℕ) × (answer ≡ check_of bytes)
Checked (Err mistake) = (failed : Failed) × (error : ℕ) × (mistake ≡ System failed error)
