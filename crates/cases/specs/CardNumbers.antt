-- The numbers of a card file's answer in a row, by which two answers are compared.
use Rattle.std.specs.Prelude.{ℕ, List, [], ◌∷◌, ◌++◌}
use Rattle.totals.specs.declared.amounts.Totals.{Totals}
use Rattle.card_run.specs.Answer.{CardAnswer, CardFileRow, card_file_row}

-- the four numbers of totals
abbrev pub totals_as_list : Totals → List ℕ
totals_as_list t = t.sales ∷ t.amounts.gross ∷ t.amounts.discount ∷ t.amounts.net ∷ []

-- document 01's row as a list
abbrev pub card_row_as_list : CardFileRow → List ℕ
card_row_as_list row =
    let refusal = row.refusal in
    let n = row.numbers in
    (refusal.number ∷ refusal.record_number ∷ refusal.column ∷ n.date ∷ n.movement ∷ n.records ∷ n.batches ∷ []) ++
    (totals_as_list n.totals.forecast ++
    (totals_as_list n.totals.settled ++
    (n.credits.count ∷ n.credits.net ∷ n.debits.count ∷ n.debits.net ∷ [])))

abbrev pub card_numbers : CardAnswer → List ℕ
card_numbers answer = card_row_as_list (card_file_row answer)
