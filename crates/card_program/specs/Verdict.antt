-- What is printed of a card file: "ACCEPTED, RECORDS 5, BATCHES 1", and by document 02 "SALES, GROSS, DISCOUNT, NET for FORECAST and then for SETTLED, eight lines in place of
-- four, each led by that word"; of its adjustments "CREDITS n, CREDIT NET n, DEBITS n, DEBIT NET n"; or "one line: REFUSED 9 RECORD 3 COLUMN 194".
use Rattle.std.specs.Prelude.{ℕ, List, [], ◌∷◌, ◌++◌, None, Some, Ok, Err}
use Rattle.text.specs.Literal.{ascii}
use Rattle.wording.specs.Line.{line_of, refused_line, joined}
use Rattle.totals.specs.declared.amounts.Totals.{Totals}
use Rattle.totals.specs.declared.two_sets.TwoSets.{TwoSets}
use Rattle.card_run.specs.declared.answer.Accepted.{Accepted as Numbers}
use Rattle.card_run.specs.Answer.{CardAnswer}
use Rattle.files.specs.declared.writing.Standard.{Standard}
use Rattle.program.specs.Outcome.{told_text, standard_of}
use Rattle.card_program.specs.Outcome.{Outcome}
use Rattle.card_program.specs.declared.verdict.Lines.{Lines}
use Rattle.card_program.specs.declared.verdict.Lines.TheVariants.{Sales, Adjustments}

-- a line that a word leads
unfoldable pub led_line : List ℕ → List ℕ → ℕ → List ℕ
led_line word name n = word ++ line_of name n

-- the lines of sales and what they come to, each led by a word; a day sheet has them without one
unfoldable pub totals_text : List ℕ → Totals → List ℕ
totals_text word t =
    joined
    (led_line word (ascii "SALES") t.sales ∷ led_line word (ascii "GROSS") t.amounts.gross ∷ led_line word (ascii "DISCOUNT") t.amounts.discount ∷
    led_line word (ascii "NET") t.amounts.net ∷ [])

unfoldable pub sets_text : TwoSets → List ℕ
sets_text s = joined (totals_text (ascii "FORECAST ") s.forecast ∷ totals_text (ascii "SETTLED ") s.settled ∷ [])

unfoldable pub accepted_text : Numbers → List ℕ
accepted_text a =
    joined
    (ascii "ACCEPTED\n" ∷ line_of (ascii "RECORDS") a.records ∷ line_of (ascii "BATCHES") a.batches ∷ sets_text a.totals ∷ [])

-- the count and the net of the credits, and of the debits
unfoldable pub adjusted_text : Numbers → List ℕ
adjusted_text a =
    joined
    (ascii "ACCEPTED\n" ∷ line_of (ascii "CREDITS") a.credits.count ∷ line_of (ascii "CREDIT NET") a.credits.net ∷
    line_of (ascii "DEBITS") a.debits.count ∷ line_of (ascii "DEBIT NET") a.debits.net ∷ [])

-- of an accepted file the lines that are asked for
abbrev pub numbers_text : Lines → Numbers → List ℕ
numbers_text Sales numbers = accepted_text numbers
numbers_text Adjustments numbers = adjusted_text numbers

-- a file that is going on has no verdict
abbrev pub verdict_text : Lines → CardAnswer → List ℕ
verdict_text lines None = []
verdict_text lines (Some (Ok numbers)) = numbers_text lines numbers
verdict_text lines (Some (Err refusal)) = refused_line refusal

-- the verdict, or the mistake's sentence
abbrev pub outcome_text : Lines → Outcome → List ℕ
outcome_text lines = told_text (verdict_text lines)

-- a verdict goes to standard output, a mistake to standard error
abbrev pub descriptor_of : Outcome → Standard
descriptor_of = standard_of
