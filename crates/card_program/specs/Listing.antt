-- What is said of a card file among many, in a word and in its line; and what is promised of the list by the edition that an argument states.
use Rattle.std.specs.Prelude.{ℕ, ◌≡◌, List, Option, None, Some, Ok, Err}
use Rattle.wording.specs.Line.{refused_line}
use Rattle.program.specs.declared.mistake.Mistake.TheVariants.{EditionNoNumber}
use Rattle.file_list.specs.declared.tally.Said.{Said}
use Rattle.file_list.specs.declared.tally.Said.TheVariants.{Accepted, Refused, Unreadable}
use Rattle.file_list.specs.Line.{unreadable}
use Rattle.file_list.specs.Listed.{Listed, ListedAll}
use Rattle.card_program.specs.Outcome.{Outcome}
use Rattle.card_program.specs.Checked.{Checked}
use Rattle.card_program.specs.Verdict.{accepted_text}

-- a file without a verdict is unreadable
abbrev pub said_of : Outcome → Said
said_of (Ok None) = Unreadable
said_of (Ok (Some (Ok numbers))) = Accepted
said_of (Ok (Some (Err refusal))) = Refused
said_of (Err mistake) = Unreadable

abbrev pub words_of : Outcome → List ℕ
words_of (Ok None) = unreadable
words_of (Ok (Some (Ok numbers))) = accepted_text numbers
words_of (Ok (Some (Err refusal))) = refused_line refusal
words_of (Err mistake) = unreadable

-- so many files: "The edition is stated by the caller, never guessed from the file"
abbrev pub ListedUnder : Option ℕ → ℕ → Listed → Type 0
ListedUnder None count listed = listed ≡ Err EditionNoNumber
ListedUnder (Some edition) count listed = ListedAll said_of (Checked edition) count listed
