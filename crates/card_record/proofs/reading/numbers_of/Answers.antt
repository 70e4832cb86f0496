-- `card_record::reading::numbers_of` meets its contract: the arm says which kind it is.
use Rattle.card_record.specs.Reading.{right_reading}
use Rattle.card_record.proofs.reading.numbers_of.Goals as goal

pub returns-in-Cv : goal.returns-in-Cv
unfolding right_reading
returns-in-Cv c = rw (c.in-Cv.is, c.read-in-Cv.ensures)
