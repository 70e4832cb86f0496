-- Document 01's row of a card file's answer as twenty numbers: the refusal, the file's numbers in the answer's order, and last whether the file is accepted.
use Rattle.std.specs.Prelude.{ℕ, List, [], ◌∷◌, ◌++◌}
use Rattle.totals.specs.declared.amounts.Totals.{Totals}
use Rattle.card_run.specs.Answer.{CardAnswer, CardFileRow, card_file_row}
use Rattle.card_run.specs.declared.answer.Accepted.{Accepted as Numbers}
use Rattle.answer_rows.specs.Row.{refusal_as_list, as_number}

-- the four numbers of totals
abbrev pub totals_as_list : Totals → List ℕ
totals_as_list t = t.sales ∷ t.amounts.gross ∷ t.amounts.discount ∷ t.amounts.net ∷ []

-- the sixteen numbers of a file: forecast sales, then settled ones, then credits and debits
abbrev pub numbers_as_list : Numbers → List ℕ
numbers_as_list n =
    (n.date ∷ n.movement ∷ n.records ∷ n.batches ∷ []) ++
    (totals_as_list n.totals.forecast ++
    (totals_as_list n.totals.settled ++
    (n.credits.count ∷ n.credits.net ∷ n.debits.count ∷ n.debits.net ∷ [])))

abbrev pub card_row_as_list : CardFileRow → List ℕ
card_row_as_list row = refusal_as_list row.refusal ++ (numbers_as_list row.numbers ++ (as_number row.accepted ∷ []))

-- a file that goes on has zeros alone
abbrev pub card_numbers : CardAnswer → List ℕ
card_numbers answer = card_row_as_list (card_file_row answer)
