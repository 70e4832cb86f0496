-- What is promised of an outcome: an answer is that of reading some bytes whole. That they are the file's is the system call's affair, and no contract can say it.
-- It is said of outcome and edition together, and so of no type alone.
use Rattle.std.specs.Prelude.{ℕ, ◌≡◌, List, Option, None, Some, Ok, Err}
use Rattle.card_file.specs.CardFile.{check_of}
use Rattle.program.specs.declared.mistake.Mistake.TheVariants.{EditionNoNumber}
use Rattle.program.specs.OfTheFiles.{OfTheFiles}
use Rattle.card_program.specs.Outcome.{Outcome}

abbrev pub Checked : ℕ → Outcome → Type 0
Checked edition (Ok answer) = (bytes : List ℕ) × (answer ≡ check_of edition bytes)
Checked edition (Err mistake) = OfTheFiles mistake

-- the same by the edition that an argument states, if it states one: "The edition is stated by the caller, never guessed from the file"
abbrev pub Worked : Option ℕ → Outcome → Type 0
Worked None outcome = outcome ≡ Err EditionNoNumber
Worked (Some edition) outcome = Checked edition outcome
