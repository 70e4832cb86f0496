-- What is printed of a day sheet: its numbers, each a line; a date and a movement have all their digits. Version 2 says so first.
use Rattle.std.specs.Prelude.{ℕ, List, [], ◌∷◌, Ok, Err}
use Rattle.text.specs.Literal.{ascii}
use Rattle.wording.specs.Line.{line_of, refused_line, joined}
use Rattle.files.specs.declared.writing.Standard.{Standard}
use Rattle.program.specs.Outcome.{told_text, standard_of}
use Rattle.totals.specs.declared.amounts.Totals.{Totals}
use Rattle.totals.specs.declared.two_sets.TwoSets.{TwoSets}
use Rattle.day_sheet.specs.Number.{in_base}
use Rattle.sheet_numbers.specs.declared.sheet.Heading.{Heading}
use Rattle.sheet_numbers.specs.declared.sheet.Sheet.{Sheet}
use Rattle.sheet_numbers.specs.declared.sheet.Sheet.TheVariants.{Version1, Version2}
use Rattle.day_sheet.specs.Reading.{SheetRead}
use Rattle.card_program.specs.Verdict.{totals_text, sets_text}
use Rattle.sheet_program.specs.SheetRead.{SheetOutcome}

-- a word and so many digits of a number
unfoldable pub digits_line : List ℕ → ℕ → ℕ → List ℕ
digits_line name width n = joined (name ∷ in_base 10 48 width n ∷ ascii "\n" ∷ [])

-- what both versions begin with
unfoldable pub heading_text : Heading → List ℕ
heading_text h =
    joined
    (line_of (ascii "EDITION") h.edition ∷ digits_line (ascii "DATE ") 8 h.date ∷ digits_line (ascii "MOVEMENT ") 6 h.movement ∷
    line_of (ascii "BATCHES") h.batches ∷ [])

unfoldable pub version1_text : Heading → Totals → List ℕ
version1_text h t = joined (heading_text h ∷ totals_text [] t ∷ [])

-- the split, and the lines of both sets as a card file has them
unfoldable pub version2_text : Heading → ℕ → TwoSets → List ℕ
version2_text h split s = joined (line_of (ascii "VERSION") 2 ∷ heading_text h ∷ line_of (ascii "SPLIT") split ∷ sets_text s ∷ [])

abbrev pub numbers_text : Sheet → List ℕ
numbers_text (Version1 heading totals) = version1_text heading totals
numbers_text (Version2 heading split sets) = version2_text heading split sets

abbrev pub read_text : SheetRead → List ℕ
read_text (Ok sheet) = numbers_text sheet
read_text (Err refusal) = refused_line refusal

-- the numbers, the refusal, or the mistake's sentence
abbrev pub outcome_text : SheetOutcome → List ℕ
outcome_text = told_text read_text

-- numbers and refusals go to standard output, a mistake to standard error
abbrev pub descriptor_of : SheetOutcome → Standard
descriptor_of = standard_of
