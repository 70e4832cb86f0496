-- `answer_rows::refused::refused_row` meets its contract: the refusal's three numbers are put in front of zeros.
use Rattle.answer_rows.proofs.RefusedRows.{three_in_front}
use Rattle.answer_rows.proofs.refused.refused_row.Goals as goal

pub returns : goal.returns
returns g c = rw c.number.ensures (three_in_front g.row.N _ _ _ c.requires)
